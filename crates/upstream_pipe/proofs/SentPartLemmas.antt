-- What was sent in an epoch, from one call of a pipe to the next.
use Rattle.std.proofs.Common.{◌≡◌, ◌≤◌, ◌+◌, ℕ, zero, suc, add-one, List, [], ◌∷◌, Option, Some, slice_get, length, map, drop, sym, ap, ◌∙◌, arith}
use Rattle.std.proofs.lemmas.List.{length-map, drop-map}
use Rattle.upstream_pipe.specs.declared.part.Owner.{Owner}
use Rattle.upstream_pipe.specs.Pipe.{PipeState, HasSent, forgotten_owner}

-- the item behind the first so many, and those behind it
item_behind : (sent rest : List (Option Owner)) (owner : Option Owner) (count : ℕ) → drop count sent ≡ owner ∷ rest → (slice_get sent count ≡ Some owner) × (drop (suc count) sent ≡ rest) × (suc count ≤ length sent)
item_behind [] rest owner zero e = absurd cc
item_behind [] rest owner (suc count) e = absurd cc
item_behind (x ∷ sent) rest owner zero e = (ap Some cc, cc, omega arith)
item_behind (x ∷ sent) rest owner (suc count) e = let (is_next, others, within) = item_behind sent rest owner count e in (is_next, others, omega (arith, within))

pub sent_answered : (p q : PipeState) (sent : List (Option Owner)) (count : ℕ) (owner : Option Owner) → HasSent p sent count → p.flying ≡ owner ∷ q.flying → (slice_get sent count ≡ Some owner) × HasSent q sent (count + 1)
sent_answered p q sent count owner h e =
    let (is_next, others, within) = item_behind sent q.flying owner count (sym h.flying ∙ e) in
    (is_next, record { some = omega (arith, within); flying = rw add-one (sym others) })

pub sent_forgotten : (p q : PipeState) (conn : ℕ) (sent : List (Option Owner)) (count : ℕ) → HasSent p sent count → q.flying ≡ map (forgotten_owner conn) p.flying → HasSent q (map (forgotten_owner conn) sent) count
sent_forgotten p q conn sent count h e = record {
  some = omega (arith, h.some, length-map sent (forgotten_owner conn));
  flying = e ∙ ap (map (forgotten_owner conn)) h.flying ∙ sym (drop-map (forgotten_owner conn) count sent);
}
