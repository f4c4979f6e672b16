-- A host's name that isn't bad is one.
use Rattle.std.proofs.Common.{◌≤◌, ℕ, List, length, inl, inr, arith}
use Rattle.std.proofs.lemmas.Bool.{cases_lt}
use Rattle.ketama.specs.HostName.{IsHostName}

le_stable : (a b : ℕ) → ((a ≤ b → ⊥) → ⊥) → a ≤ b
le_stable a b other = elim (cases_lt b a) [
  | inl below ↦ absurd (other (λ le. omega (arith, below, le)))
  | inr le ↦ le
]

pub is_host_name_stable : (bytes : List ℕ) → ((IsHostName bytes → ⊥) → ⊥) → IsHostName bytes
is_host_name_stable bytes other = record {
  nonempty = le_stable 1 (length bytes) (λ not. other (λ is. not is.nonempty));
  short = le_stable (length bytes) 255 (λ not. other (λ is. not is.short));
  visible = λ k d within. (
    le_stable 0x21 _ (λ not. other (λ is. not (is.visible k d within).0)),
    le_stable _ 0x7E (λ not. other (λ is. not (is.visible k d within).1)),
  );
}
