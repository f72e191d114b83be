use Rattle.std.proofs.Common.{nat_lt, rules, sym, arith}
use Rattle.std.proofs.lemmas.List.Sorted.{IsPartitionPoint-from_clause}
use Rattle.mau_tokens.specs.declared.token.Token.{Token}
use Rattle.mau_declare.proofs.CountBefore.{first_counted}
use Rattle.mau_declare.proofs.Starts.{starts_rise}
use Rattle.mau_declare.proofs.words.begin_before.Goals as goal

no_token : Token
no_token = record { start = 0; end = 0 }

pub returns-clause-count : goal.returns-clause-count
returns-clause-count c =
    let rise = starts_rise c.args.text.now c.args.tokens.now c.args.place c.requires in
    let point = IsPartitionPoint-from_clause (λ t. nat_lt t.start c.args.place) _ _ c.partition_point.ensures.partitioned rise (λ a r q k. search rules) in
    sym (first_counted (λ t. nat_lt t.start c.args.place) c.args.tokens.now no_token c.partition_point.result c.partition_point.ensures.bound
    (λ k h. point.0 k no_token (omega arith) h) (λ k l h. point.1 k no_token l h))
