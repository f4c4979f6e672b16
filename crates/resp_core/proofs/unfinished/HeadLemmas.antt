-- Heads that are read a byte at a time.
use Rattle.std.proofs.Common.{◌≡◌, ◌≢◌, ℕ, false, Result, Ok, Err, zero, suc, ◌+◌, ◌-◌, ◌<◌, List, [], ◌∷◌, ◌++◌, length, get_or, take, drop, drop-cons, refl, sym, ap, ◌∙◌, append-nil, Some, arith}
use Rattle.std.proofs.lemmas.List.{take-append-drop, take_all}
use Rattle.resp_core.specs.declared.error.Refusal.{Refusal}
use Rattle.resp_core.specs.declared.head.Head.{Head}
use Rattle.resp_core.specs.declared.head.Sized.{Sized}
use Rattle.resp_core.specs.declared.head.Sized.TheVariants as sized
use Rattle.resp_core.specs.declared.head.Next.{Next}
use Rattle.resp_core.specs.declared.head.Next.TheVariants as nexts
use Rattle.resp_core.specs.declared.head.Head.TheVariants as heads
use Rattle.resp_core.specs.Reading.{unfinished, refused, found, and_then, payload_at, members_at, value_at, leaf_at, bulk_at, list_at, byte_at, null_end_at, count_at, digits_at, integer_at}
use Rattle.resp_core.specs.Grammar.{max_line}
use Rattle.resp_core.specs.ResumedReading.{head_at, next_at, limit_of, found_of, GoesOn, Steps}

front_suc : (b : List ℕ) (i : ℕ) (y : List ℕ) → i < length b → take (suc i) b ++ y ≡ take i b ++ get_or b i 0 ∷ y
front_suc [] i y h = absurd (omega arith)
front_suc (c ∷ cs) zero y h = refl
front_suc (c ∷ cs) (suc i) y h = ap (λ z. c ∷ z) (front_suc cs i y (omega arith))

-- one byte more of the front
pub front_push : (b : List ℕ) (i : ℕ) (y : List ℕ) → i < length b → take (i + 1) b ++ y ≡ take i b ++ get_or b i 0 ∷ y
front_push b i y h = let e : i + 1 ≡ suc i = omega arith in ap (λ z. take z b ++ y) e ∙ front_suc b i y h

pub goes_next : (most left : ℕ) (h k : Head) (next : Next) (b : List ℕ) (i : ℕ) → i < length b → GoesOn most left h (take i b) (nexts.Head k) → ((cs : List ℕ) → head_at most left k (get_or b i 0 ∷ cs) ≡ next_at most left next cs) → GoesOn most left h (take (i + 1) b) next
goes_next most left h k next b i lt g s = λ y. ap (head_at most left h) (front_push b i y lt) ∙ g (get_or b i 0 ∷ y) ∙ s y

pub stops_there : (most left : ℕ) (h k : Head) (r : Refusal) (b : List ℕ) (i : ℕ) → i < length b → GoesOn most left h (take i b) (nexts.Head k) → ((cs : List ℕ) → head_at most left k (get_or b i 0 ∷ cs) ≡ refused r (get_or b i 0 ∷ cs)) → head_at most left h b ≡ refused r (drop i b)
stops_there most left h k r b i lt g s =
    let parts : drop i b ≡ get_or b i 0 ∷ drop (suc i) b = drop-cons b i 0 lt in
    ap (head_at most left h) (sym (take-append-drop i b)) ∙ g (drop i b) ∙ ap (head_at most left k) parts ∙ s (drop (suc i) b) ∙ ap (refused r) (sym parts)

-- what a length announces, where it is read at once
pub goes_behind_length : (most left : ℕ) (s : Sized) (b : List ℕ) (n : ℕ) → ((y : List ℕ) → count_at (limit_of most s) (b ++ y) ≡ found (Some n) y) → GoesOn most left (heads.Length s) b (nexts.Found (found_of s n))
goes_behind_length most left sized.Bulk b n reads = λ y. ap (λ o. and_then o payload_at) (reads y)
goes_behind_length most left sized.List b n reads = λ y. ap (λ o. and_then o (members_at (value_at most (left - 1)))) (reads y)

-- the type byte of a bulk string, and of a list
type_of_bulk : (most left : ℕ) (cs : List ℕ) → head_at most left heads.Type (36 ∷ cs) ≡ head_at most left (heads.Length sized.Bulk) cs
unfolding value_at leaf_at bulk_at
type_of_bulk most zero cs = refl
type_of_bulk most (suc left) cs = refl

type_of_list : (most left : ℕ) (cs : List ℕ) → 0 < left → head_at most left heads.Type (42 ∷ cs) ≡ head_at most left (heads.Length sized.List) cs
unfolding value_at list_at
type_of_list most zero cs h = absurd (omega (arith, h))
type_of_list most (suc left) cs h =
    let e : left ≡ suc left - 1 = omega arith in
    ap (λ z. and_then (count_at most cs) (members_at (value_at most z))) e

-- what stands behind a type byte and further bytes of its head
behind_byte : (most left : ℕ) (s : Sized) (next : Next) (b rest : List ℕ) (c n : ℕ) → b ≡ c ∷ rest → ((cs : List ℕ) → head_at most left heads.Type (c ∷ cs) ≡ head_at most left (heads.Length s) cs) → GoesOn most left (heads.Length s) (take n rest) next → GoesOn most left heads.Type (take (n + 1) b) next
behind_byte most left s next b rest c n e f g = λ y.
    let m : n + 1 ≡ suc n = omega arith in
    ap (λ z. head_at most left heads.Type (take (n + 1) z ++ y)) e ∙ ap (λ z. head_at most left heads.Type (take z (c ∷ rest) ++ y)) m ∙ f (take n rest ++ y) ∙ g y

pub behind_bulk_type : (most left : ℕ) (next : Next) (b rest : List ℕ) (n : ℕ) → b ≡ 36 ∷ rest → GoesOn most left (heads.Length sized.Bulk) (take n rest) next → GoesOn most left heads.Type (take (n + 1) b) next
behind_bulk_type most left next b rest n e g = behind_byte most left sized.Bulk next b rest 36 n e (type_of_bulk most left) g

pub behind_list_type : (most left : ℕ) (next : Next) (b rest : List ℕ) (n : ℕ) → 0 < left → b ≡ 42 ∷ rest → GoesOn most left (heads.Length sized.List) (take n rest) next → GoesOn most left heads.Type (take (n + 1) b) next
behind_list_type most left next b rest n h e g = behind_byte most left sized.List next b rest 42 n e (λ cs. type_of_list most left cs h) g

-- a head with nothing behind it
pub head_at_nil : (most left : ℕ) (h : Head) → head_at most left h [] ≡ unfinished
unfolding value_at leaf_at byte_at null_end_at count_at digits_at integer_at
head_at_nil most zero heads.Type = refl
head_at_nil most (suc left) heads.Type = refl
head_at_nil most left (heads.Length s) = refl
head_at_nil most left (heads.One s) = refl
head_at_nil most left (heads.Return s) = refl
head_at_nil most left (heads.Digits s count n) = refl
head_at_nil most left heads.Sign = refl
head_at_nil most left (heads.Number minus digits count n) = refl
head_at_nil most left (heads.Feed f) = refl

-- a head that has not ended at the end of the bytes
pub head_unfinished : (most left k : ℕ) (h next : Head) (b : List ℕ) → GoesOn most left h (take k b) (nexts.Head next) → k ≡ length b → head_at most left h b ≡ unfinished
head_unfinished most left k h next b g e =
    ap (head_at most left h) (sym (append-nil (take k b) ∙ take_all k b (omega (arith, e)))) ∙ g [] ∙ head_at_nil most left next

-- a byte leads as far from one head as from another that is read like it from there
steps_like : (most left : ℕ) (h k : Head) (c : ℕ) (r : Result Next Refusal) → ((cs : List ℕ) → head_at most left h (c ∷ cs) ≡ head_at most left k (c ∷ cs)) → Steps most left k c r → Steps most left h c r
steps_like most left h k c (Ok next) same steps = λ cs. same cs ∙ steps cs
steps_like most left h k c (Err refusal) same steps = λ cs. same cs ∙ steps cs

-- the first byte of an integer without a sign is that of its digits
pub steps_unsigned : (most left c : ℕ) (r : Result Next Refusal) → c ≢ 43 → c ≢ 45 → Steps most left (heads.Number false max_line 0 0) c r → Steps most left heads.Sign c r
unfolding integer_at
steps_unsigned most left c r plus minus steps = steps_like most left heads.Sign (heads.Number false max_line 0 0) c r (λ cs. grind (arith, plus, minus)) steps

-- the first byte of a length that is no null's is that of its digits
pub steps_digits : (most left : ℕ) (s : Sized) (c : ℕ) (r : Result Next Refusal) → c ≢ 45 → Steps most left (heads.Digits s 0 0) c r → Steps most left (heads.Length s) c r
unfolding count_at
steps_digits most left s c r minus steps = steps_like most left (heads.Length s) (heads.Digits s 0 0) c r (λ cs. grind (arith, minus)) steps
