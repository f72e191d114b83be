-- Lemmas.

-- what a rule run answers may be answered for it
pub mod RunAnswered
-- by rules without rewriting conditions terms may be rewritten
pub mod NoReach
