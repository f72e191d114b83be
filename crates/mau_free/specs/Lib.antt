-- What a term can take as an argument of an operator that is not associative.
pub mod Arguments
