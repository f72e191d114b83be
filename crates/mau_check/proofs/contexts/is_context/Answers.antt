use Rattle.std.proofs.Common.{subst}
use Rattle.mau_api.specs.Terms.{holes}
use Rattle.mau_check.specs.Kept.{AreHoles}
use Rattle.mau_check.proofs.UseOf.{context_single, context_none, context_more}
use Rattle.mau_check.proofs.contexts.is_context.Goals as goal

pub returns-in-Single : goal.returns-in-Single
returns-in-Single c s t d b h = context_single s t d c.in-Single.hole c.args.kind b (subst (λ z. AreHoles z (holes d)) c.in-Single.is h)

pub returns-in-Absent : goal.returns-in-Absent
returns-in-Absent c s t d b h = ((λ e. absurd cc), λ g. absurd (context_none s t d (subst (λ z. AreHoles z (holes d)) c.in-Absent.is h) g))

pub returns-in-Several : goal.returns-in-Several
returns-in-Several c s t d b h = ((λ e. absurd cc), λ g. absurd (context_more s t d (subst (λ z. AreHoles z (holes d)) c.in-Several.is h) g))
