-- A lemma that says two things, as the two clauses of a contract. Assumes nothing.

pub with_bound : {A B : Type 0} → A × B → record { value : A; upper_bound : B }
with_bound both = record { value = both.0; upper_bound = both.1 }

pub with_text : {A B : Type 0} → A × B → record { value : A; text_after : B }
with_text both = record { value = both.0; text_after = both.1 }
