-- Commands that are their text.
use Rattle.std.proofs.Common.{lt-ltb, ◌≡◌, ◌<◌, ◌≤◌, ◌^◌, ◌+◌, ◌*◌, ◌/◌, ◌%◌, ℕ, zero, suc, List, [], ◌∷◌, ◌++◌, length, map, take, drop, slice_index_or, get_or, true, Some, inl, inr, refl, sym, ap, ◌∙◌, arith, subst, decimal, ◌-◌}
use Rattle.std.proofs.lemmas.List.{map-append, length-map, length-append, append_assoc, length-drop, length-take-le, append-nil, take-append-drop, take-append-le, take_all}
use Rattle.std.proofs.Math.Seq.{drop-append-add}
use Rattle.std.specs.List.{list_all}
use Rattle.std.proofs.lemmas.Fmt.{decimal_digit, decimal_step}
use Rattle.resp_core.specs.Tree.{bulk, list, trees_of, members, are_plain_trees}
use Rattle.resp_core.specs.Command.{word, words_of, payload_of, is_bulk, is_command, are_words, command_of}
use Rattle.resp_core.specs.Grammar.{IsText, max_bulk, max_depth}
use Rattle.resp_core.specs.Reading.{Outcome, found, unfinished, refused, and_then, count_at, payload_at, bulk_at, leaf_at, text_at, value_at}
use Rattle.resp_core.specs.ResumedReading.{GoesOn, IsGoodFound, IsGoodNext, found_at, line_tree, next_at}
use Rattle.resp_core.specs.declared.error.Refusal.{Refusal}
use Rattle.resp_core.specs.declared.head.Head.{Head}
use Rattle.resp_core.specs.declared.head.Found.{Found}
use Rattle.resp_core.specs.declared.head.Line.{Line}
use Rattle.resp_core.specs.declared.head.Line.TheVariants as lines
use Rattle.resp_core.specs.declared.head.Next.{Next}
use Rattle.resp_core.specs.declared.head.Next.TheVariants as nexts
use Rattle.resp_core.specs.declared.head.Head.TheVariants as heads
use Rattle.resp_core.specs.declared.head.Found.TheVariants as founds
use Rattle.resp_core.specs.Text.{line, line_end, text, texts}
use Rattle.resp_core.specs.SpelledCommand.{IsPlace, IsSpelled, tree_found, words_in}
use Rattle.resp_core.specs.Value.{tree_of}
use Rattle.resp_core.specs.declared.value.Value.{Value}
use Rattle.resp_core.specs.declared.partial_value.PartialValue.{PartialValue}
use Rattle.resp_core.specs.PartialValue.{Reads, IsFresh, Gave}
use Rattle.resp_core.specs.ValueLimits.{IsWithin, AreWithin}
use Rattle.resp_core.proofs.RoundTripLemmas.{is_length, text_is_read}
use Rattle.resp_core.proofs.TreeLemmas.{length_members, members_trees}
use Rattle.resp_core.proofs.OneSpellingLemmas.{one_length}
use Rattle.resp_core.proofs.unfinished.HeadLemmas.{head_unfinished}
use Rattle.resp_core.proofs.unfinished.ResumedReadingLemmas.{payload_cut}
use Rattle.resp_core.proofs.reading.WholeValueLemmas.{IsCountOf, count-reads, value-reads}

-- a length line of as many bytes as the one spelling has is that
length_line_is : (limit n : ℕ) (b x y : List ℕ) → b ≡ x ++ y → IsCountOf limit x (Some n) → n < 2 ^ 64 → length x ≡ length (decimal n) + 2 → b ≡ decimal n ++ line_end ++ y
length_line_is limit n b x y split (inl (z, f, (u, h, k))) small len = cc
length_line_is limit n b x y split (inr (m, (digits, number, is), k)) small len =
    let n_is : n ≡ m = cc in
    let places : length digits ≡ length (decimal m) = omega (arith, len, ap length is, length-append digits line_end, ap (λ z. length (decimal z)) n_is) in
    let same = one_length limit digits m number (omega (arith, small, n_is)) places in
    split ∙ ap (λ z. z ++ y) (is ∙ ap (λ z. z ++ line_end) (same ∙ ap decimal (sym n_is)))

pub short_line_is : (limit n len : ℕ) (b : List ℕ) → ((y : List ℕ) → count_at limit (take len b ++ y) ≡ found (Some n) y) → len ≤ length b → n < 2 ^ 64 → len ≡ length (decimal n) + 2 → b ≡ decimal n ++ line_end ++ drop len b
short_line_is limit n len b reads inside small len_is =
    let (x, split, count) = (count-reads limit).sound (take len b ++ []) [] (Some n) (reads []) in
    let x_is : take len b ≡ x = sym (append-nil (take len b)) ∙ split ∙ append-nil x in
    length_line_is limit n b x (drop len b) (sym (take-append-drop len b) ∙ ap (λ z. z ++ drop len b) x_is) count small (omega (arith, ap length x_is, length-take-le len b inside, len_is))

-- a bulk string behind a length line in the one spelling has that spelling
pub short_bulk_is : (n : ℕ) (b first rest s : List ℕ) → b ≡ line 36 (decimal n) ++ first → payload_at (Some n) first ≡ found (bulk s) rest → b ≡ text (bulk s) ++ rest
short_bulk_is n b first rest s is e =
    let cut = payload_cut n first rest s e in
    let head = line 36 (decimal n) in
    is ∙ ap (λ z. head ++ z) cut.parts ∙ sym (append_assoc head (s ++ line_end) rest)
    ∙ ap (λ z. z ++ rest) (sym (append_assoc head s line_end)) ∙ ap (λ z. (line 36 (decimal z) ++ s ++ line_end) ++ rest) cut.count

-- the one spelling of a bulk string is read
bulk_is_read : (b s rest : List ℕ) → b ≡ text (bulk s) ++ rest → length s ≤ max_bulk → value_at 0 0 b ≡ found (bulk s) rest
bulk_is_read b s rest is few = ap (value_at 0 0) is ∙ (value-reads 0 0).again (text (bulk s)) rest (bulk s) (text_is_read 0 0 (bulk s) (omega arith) few refl)

goes_there : (head : ℕ) (b : List ℕ) (next : Next) → GoesOn 0 0 heads.Type (take head b) next → value_at 0 0 b ≡ next_at 0 0 next (drop head b)
goes_there head b next goes = ap (value_at 0 0) (sym (take-append-drop head b)) ∙ goes (drop head b)

pub place_is : (n head : ℕ) (b : List ℕ) → GoesOn 0 0 heads.Type (take head b) (nexts.Found (founds.Payload n)) → head ≤ length b → (s rest : List ℕ) → b ≡ text (bulk s) ++ rest → length s ≤ max_bulk → IsPlace head n s rest b
place_is n head b goes inside s rest is few =
    let cut = payload_cut n (drop head b) rest s (sym (goes_there head b (nexts.Found (founds.Payload n)) goes) ∙ bulk_is_read b s rest is few) in
    record { len_is = cut.count; inside = inside; behind = cut.parts }

-- nothing else is read of it
pub bulk_not_refused : (b s rest behind : List ℕ) (r : Refusal) → b ≡ text (bulk s) ++ rest → length s ≤ max_bulk → value_at 0 0 b ≡ refused r behind → ⊥
bulk_not_refused b s rest behind r is few e = let clash : found (bulk s) rest ≡ refused r behind = sym (bulk_is_read b s rest is few) ∙ e in cc

pub bulk_not_head : (k : ℕ) (b s rest : List ℕ) (next : Next) (h : Head) → b ≡ text (bulk s) ++ rest → length s ≤ max_bulk → next ≡ nexts.Head h → GoesOn 0 0 heads.Type (take k b) next → k ≡ length b → ⊥
bulk_not_head k b s rest next h is few e goes all =
    let less = head_unfinished 0 0 k heads.Type h b (rw e at goes) all in
    let clash : found (bulk s) rest ≡ unfinished = sym (bulk_is_read b s rest is few) ∙ less in cc

line_not_bulk : (l : Line) (o : Outcome (List ℕ)) (s rest : List ℕ) → and_then o (λ x y. found (line_tree l x) y) ≡ found (bulk s) rest → ⊥
line_not_bulk lines.Simple (found x y) s rest e = cc
line_not_bulk lines.Fault (found x y) s rest e = cc
line_not_bulk l unfinished s rest e = cc
line_not_bulk l (refused r y) s rest e = cc

pub bulk_not_other : (k : ℕ) (b s rest : List ℕ) (next : Next) (f : Found) → b ≡ text (bulk s) ++ rest → length s ≤ max_bulk → next ≡ nexts.Found f → GoesOn 0 0 heads.Type (take k b) next → IsGoodNext 0 0 next → ((n : ℕ) → f ≡ founds.Payload n → ⊥) → ⊥
bulk_not_other k b s rest next f is few e goes good other =
    by f (rw e at good) other (sym (goes_there k b (nexts.Found f) (rw e at goes)) ∙ bulk_is_read b s rest is few)
  where
    by : (f : Found) → IsGoodFound 0 0 f → ((n : ℕ) → f ≡ founds.Payload n → ⊥) → found_at 0 0 f (drop k b) ≡ found (bulk s) rest → ⊥
    by (founds.Line l) good other e = line_not_bulk l (text_at [] (drop k b)) s rest e
    by (founds.Payload n) good other e = other n refl
    by (founds.Members n) good other e = omega (arith, good.0)
    by founds.NullBulk good other e = cc
    by founds.NullList good other e = cc
    by (founds.Whole n) good other e = cc

-- behind the line with their number stand the texts of so many words
pub record IsScanned (count n : ℕ) (b rest : List ℕ) : Type 0 where
  pub words : List (List ℕ)
  pub split : b ≡ line 42 (decimal count) ++ texts (trees_of (map bulk words)) ++ rest
  pub number : length words ≡ n

texts_push : (ws : List (List ℕ)) (s : List ℕ) → texts (trees_of (map bulk (ws ++ s ∷ []))) ≡ texts (trees_of (map bulk ws)) ++ text (bulk s)
texts_push [] s = append-nil (text (bulk s))
texts_push (w ∷ ws) s = ap (λ z. text (bulk w) ++ z) (texts_push ws s) ∙ sym (append_assoc (text (bulk w)) (texts (trees_of (map bulk ws))) (text (bulk s)))

pub scanned_none : (count : ℕ) (b rest : List ℕ) → b ≡ line 42 (decimal count) ++ rest → IsScanned count 0 b rest
scanned_none count b rest is = record { words = []; split = is ∙ ap (λ z. z ++ rest) (sym (append-nil (line 42 (decimal count)))); number = refl }

pub scanned_next : (count n : ℕ) (b rest behind s : List ℕ) → IsScanned count n b rest → rest ≡ text (bulk s) ++ behind → IsScanned count (n + 1) b behind
scanned_next count n b rest behind s i is =
    let head = line 42 (decimal count) in
    let front = texts (trees_of (map bulk i.words)) in
    record {
      words = i.words ++ s ∷ [];
      split = i.split ∙ ap (λ z. head ++ front ++ z) is ∙ sym (append_assoc (head ++ front) (text (bulk s)) behind)
          ∙ ap (λ z. z ++ behind) (append_assoc head front (text (bulk s)) ∙ ap (λ z. head ++ z) (sym (texts_push i.words s)));
      number = omega (arith, length-append i.words (s ∷ []), i.number);
    }

pub scanned_inside : (count n : ℕ) (b rest : List ℕ) → IsScanned count n b rest → length rest < length b
scanned_inside count n b rest i =
    let front = line 42 (decimal count) ++ texts (trees_of (map bulk i.words)) in
    omega (arith, ap length i.split, length-append front rest, length-append (line 42 (decimal count)) (texts (trees_of (map bulk i.words))))

pub scanned_all : (count n len : ℕ) (b rest : List ℕ) → IsScanned count n b rest → n ≡ count → 0 < count → count ≤ 9 → len ≡ length b - length rest → len ≤ 512 → (ws : List (List ℕ)) × IsSpelled (take len b) ws
scanned_all count m len b rest i all some few len_is short =
    let front = line 42 (decimal count) ++ texts (trees_of (map bulk i.words)) in
    let n : len ≡ length front = omega (arith, len_is, ap length i.split, length-append front rest) in
    let is : take len b ≡ front = ap (λ z. take z b) n ∙ ap (take (length front)) i.split ∙ take-append-le (length front) front rest (omega arith) ∙ take_all (length front) front (omega arith) in
    let number : count ≡ length (members (trees_of (map bulk i.words))) = sym all ∙ sym i.number ∙ sym (length_members bulk i.words) in (
      i.words,
      record {
        text = is ∙ ap (λ z. line 42 (decimal z) ++ texts (trees_of (map bulk i.words))) number;
        some = omega (arith, i.number, all, some);
        few = omega (arith, i.number, all, few);
        short = omega (arith, ap length is, n, short);
      },
    )

-- the payload and the bytes behind its line end, as they are cut
pub record IsCutAt (len : ℕ) (s rest b front back : List ℕ) : Type 0 where
  pub inside : len ≤ length b
  pub end : 2 ≤ length back
  pub front_is : front ≡ s
  pub back_is : take (length back - 2) (drop 2 back) ≡ rest

pub cut_at : (len : ℕ) (s rest b front back : List ℕ) → b ≡ s ++ line_end ++ rest → len ≡ length s → front ≡ take len b → back ≡ drop len b → IsCutAt len s rest b front back
cut_at len s rest b front back parts len_is front_is back_is =
    let split : b ≡ s ++ (line_end ++ rest) = parts ∙ append_assoc s line_end rest in
    let s_is : front ≡ s = front_is ∙ ap (take len) split ∙ ap (λ z. take z (s ++ (line_end ++ rest))) len_is ∙ take-append-le (length s) s (line_end ++ rest) (omega arith) ∙ take_all (length s) s (omega arith) in
    let n : len ≡ length s + 0 = omega (arith, len_is) in
    let behind : back ≡ 13 ∷ 10 ∷ rest = back_is ∙ ap (drop len) split ∙ ap (λ z. drop z (s ++ (line_end ++ rest))) n ∙ drop-append-add s (line_end ++ rest) 0 in
    record {
      inside = omega (arith, ap length split, length-append s (line_end ++ rest), len_is);
      end = omega (arith, ap length behind);
      front_is = s_is;
      back_is = ap (λ z. take (length z - 2) (drop 2 z)) behind ∙ take_all (length (13 ∷ 10 ∷ rest) - 2) rest (omega arith);
    }

pub cut_is : (head len : ℕ) (s rest b front back : List ℕ) → IsPlace head len s rest b → front ≡ take len (take (length b - head) (drop head b)) → back ≡ drop len (take (length b - head) (drop head b)) → (front ≡ s) × (take (length back - 2) (drop 2 back) ≡ rest)
cut_is head len s rest b front back p front_is back_is =
    let all : take (length b - head) (drop head b) ≡ s ++ line_end ++ rest = take_all (length b - head) (drop head b) (omega (arith, length-drop head b)) ∙ p.behind in
    let cut = cut_at len s rest (take (length b - head) (drop head b)) front back all p.len_is front_is back_is in
    (cut.front_is, cut.back_is)

-- the line with the number of words is four bytes long
pub spelled_front : (b : List ℕ) (ws : List (List ℕ)) → IsSpelled b ws → b ≡ 42 ∷ (48 + length ws) ∷ 13 ∷ 10 ∷ texts (trees_of (map bulk ws))
spelled_front b ws i =
    i.text ∙ ap (λ z. line 42 (decimal z) ++ texts (trees_of (map bulk ws))) (length_members bulk ws)
    ∙ ap (λ z. line 42 z ++ texts (trees_of (map bulk ws))) (decimal_digit (length ws) (omega (arith, i.few)))

-- from a word on
word_then : (ws : List (List ℕ)) (at : ℕ) → at < length ws → drop at ws ≡ word ws at ∷ drop (suc at) ws
word_then [] at less = absurd (omega (arith, less))
word_then (w ∷ ws) zero less = refl
word_then (w ∷ ws) (suc at) less = word_then ws at (omega (arith, less))

pub word_next : (ws : List (List ℕ)) (at : ℕ) → at < length ws → drop at ws ≡ word ws at ∷ drop (at + 1) ws
word_next ws at less = let n : suc at ≡ at + 1 = omega arith in word_then ws at less ∙ ap (λ z. word ws at ∷ drop z ws) n

pub texts_next : (ws : List (List ℕ)) (at : ℕ) → at < length ws → texts (trees_of (map bulk (drop at ws))) ≡ text (bulk (word ws at)) ++ texts (trees_of (map bulk (drop (at + 1) ws)))
texts_next ws at less = ap (λ z. texts (trees_of (map bulk z))) (word_next ws at less)

word_len : (ws : List (List ℕ)) (at : ℕ) → at < length ws → length (word ws at) ≤ length (texts (trees_of (map bulk ws)))
word_len [] at less = omega (arith, less)
word_len (w ∷ ws) zero less =
    omega (arith, length-append (text (bulk w)) (texts (trees_of (map bulk ws))), length-append (line 36 (decimal (length w)) ++ w) line_end, length-append (line 36 (decimal (length w))) w)
word_len (w ∷ ws) (suc at) less = omega (arith, word_len ws at (omega (arith, less)), length-append (text (bulk w)) (texts (trees_of (map bulk ws))))

pub word_short : (b : List ℕ) (ws : List (List ℕ)) (at : ℕ) → IsSpelled b ws → at < length ws → length (word ws at) ≤ max_bulk
word_short b ws at i less = omega (arith, i.short, ap length (spelled_front b ws i), word_len ws at less)

pub number_is : (b x : List ℕ) (ws : List (List ℕ)) → IsSpelled b ws → x ≡ b → slice_index_or x 1 0 ≡ 48 + length ws
number_is b x ws i is = ap (λ z. slice_index_or z 1 0) (is ∙ spelled_front b ws i)

pub words_behind : (b x : List ℕ) (ws : List (List ℕ)) → IsSpelled b ws → x ≡ b → (4 ≤ length x) × (drop 4 x ≡ texts (trees_of (map bulk ws)))
words_behind b x ws i is =
    let front = is ∙ spelled_front b ws i in
    (omega (arith, ap length front), ap (drop 4) front)

-- what is read of a word
pub word_is : (ws : List (List ℕ)) (at : ℕ) (rest : List ℕ) → at < length ws → length (word ws at) ≤ max_bulk → rest ≡ texts (trees_of (map bulk (drop at ws))) → (s behind : List ℕ) × (rest ≡ text (bulk s) ++ behind) × (length s ≤ max_bulk)
word_is ws at rest less few is = (word ws at, texts (trees_of (map bulk (drop (at + 1) ws))), is ∙ texts_next ws at less, few)

-- such a command keeps the limits
words_within : (ws : List (List ℕ)) → length (texts (trees_of (map bulk ws))) ≤ max_bulk → AreWithin 9 7 (trees_of (map bulk ws))
words_within [] few = tt
words_within (w ∷ ws) few =
    let all = length-append (text (bulk w)) (texts (trees_of (map bulk ws))) in
    let one = length-append (line 36 (decimal (length w)) ++ w) line_end in
    let head = length-append (line 36 (decimal (length w))) w in
    (omega (arith, few, all, one, head), words_within ws (omega (arith, few, all)))

words_plain : (ws : List (List ℕ)) → are_plain_trees (trees_of (map bulk ws)) ≡ true
words_plain [] = refl
words_plain (w ∷ ws) = words_plain ws

command_within : (b : List ℕ) (ws : List (List ℕ)) → IsSpelled b ws → IsWithin 9 max_depth (command_of ws)
command_within b ws i = (omega (arith, i.few, length_members bulk ws), words_within ws (omega (arith, i.short, ap length (spelled_front b ws i))))

-- and is read
pub spelled_is_read : (b : List ℕ) (ws : List (List ℕ)) → IsSpelled b ws → (most : ℕ) → 9 ≤ most → most < 2 ^ 32 → IsText most max_depth b (command_of ws)
spelled_is_read b ws i most few small = subst (λ (z : List ℕ). IsText most max_depth z (command_of ws)) (sym i.text) (text_is_read most max_depth (command_of ws) small (more_within most) (words_plain ws))
  where
    more : (us : List (List ℕ)) → AreWithin 9 7 (trees_of (map bulk us)) → AreWithin most 7 (trees_of (map bulk us))
    more [] within = tt
    more (u ∷ us) within = (within.0, more us within.1)

    more_within : (m : ℕ) → IsWithin most max_depth (command_of ws)
    more_within m = let within = command_within b ws i in (omega (arith, within.0, few), more ws within.1)

-- the words of a command
pub payloads : (ws : List (List ℕ)) → map payload_of (map bulk ws) ≡ ws
payloads [] = refl
payloads (w ∷ ws) = ap (λ z. w ∷ z) (payloads ws)

pub words_of_command : (ws : List (List ℕ)) → words_of (command_of ws) ≡ ws
words_of_command ws = ap (map payload_of) (members_trees (map bulk ws)) ∙ payloads ws

bulks : (ws : List (List ℕ)) → list_all is_bulk (map bulk ws) ≡ true
bulks [] = refl
bulks (w ∷ ws) = bulks ws

pub command_of_is_command : (ws : List (List ℕ)) → 0 < length ws → is_command (command_of ws) ≡ true
command_of_is_command ws some =
    ap are_words (members_trees (map bulk ws)) ∙ rw (lt-ltb 0 (length (map bulk ws)) (omega (arith, some, length-map ws bulk)), bulks ws) refl

-- what the bytes spell
pub spelled_words : (b : List ℕ) (ws : List (List ℕ)) → IsSpelled b ws → words_in b ≡ ws
spelled_words b ws i =
    let read : value_at 9 max_depth b ≡ found (command_of ws) [] =
    ap (value_at 9 max_depth) (sym (append-nil b)) ∙ (value-reads 9 max_depth).again b [] (command_of ws) (spelled_is_read b ws i 9 (omega arith) (omega arith)) in
    ap (λ z. words_of (tree_found z)) read ∙ words_of_command ws

-- the values of the words before one
pub record AreSlices (ws : List (List ℕ)) (at : ℕ) (values : List Value) (rest : List ℕ) : Type 0 where
  pub front : map tree_of values ≡ map bulk (take at ws)
  pub behind : rest ≡ texts (trees_of (map bulk (drop at ws)))

word_last : (ws : List (List ℕ)) (at : ℕ) → at < length ws → take (suc at) ws ≡ take at ws ++ word ws at ∷ []
word_last [] at less = absurd (omega (arith, less))
word_last (w ∷ ws) zero less = refl
word_last (w ∷ ws) (suc at) less = ap (λ z. w ∷ z) (word_last ws at (omega (arith, less)))

values_then : (values : List Value) (v : Value) (us : List (List ℕ)) (s : List ℕ) → map tree_of values ≡ map bulk us → tree_of v ≡ bulk s → map tree_of (values ++ v ∷ []) ≡ map bulk (us ++ s ∷ [])
values_then values v us s front is = map-append tree_of values (v ∷ []) ∙ ap (λ z. z ++ tree_of v ∷ []) front ∙ ap (λ z. map bulk us ++ z ∷ []) is ∙ sym (map-append bulk us (s ∷ []))

pub slices_next : (ws : List (List ℕ)) (at : ℕ) (values : List Value) (v : Value) (rest behind : List ℕ) → AreSlices ws at values rest → at < length ws → tree_of v ≡ bulk (word ws at) → behind ≡ texts (trees_of (map bulk (drop (at + 1) ws))) → AreSlices ws (at + 1) (values ++ v ∷ []) behind
slices_next ws at values v rest behind a less is behind_is =
    let one : suc at ≡ at + 1 = omega arith in
    record {
      front = values_then values v (take at ws) (word ws at) a.front is ∙ ap (map bulk) (sym (word_last ws at less) ∙ ap (λ z. take z ws) one);
      behind = behind_is;
    }

-- what is taken of a word
pub taken_is : (head len : ℕ) (s rest b cut word behind : List ℕ) → IsPlace head len s rest b → cut ≡ drop head b → word ≡ take len cut → behind ≡ drop 2 (drop len cut) → (word ≡ s) × (behind ≡ rest)
taken_is head len s rest b cut word behind p cut_is word_is behind_is =
    let split : cut ≡ s ++ (line_end ++ rest) = cut_is ∙ p.behind ∙ append_assoc s line_end rest in
    let n : len ≡ length s + 0 = omega (arith, p.len_is) in (
      word_is ∙ ap (take len) split ∙ ap (λ z. take z (s ++ (line_end ++ rest))) p.len_is ∙ take-append-le (length s) s (line_end ++ rest) (omega arith) ∙ take_all (length s) s (omega arith),
      behind_is ∙ ap (λ z. drop 2 (drop len z)) split ∙ ap (λ z. drop 2 (drop z (s ++ (line_end ++ rest)))) n ∙ ap (drop 2) (drop-append-add s (line_end ++ rest) 0),
    )

pub taken_inside : (head len : ℕ) (s rest b : List ℕ) → IsPlace head len s rest b → len + 2 ≤ length (drop head b)
taken_inside head len s rest b p = omega (arith, p.len_is, ap length p.behind, length-append (s ++ line_end) rest, length-append s line_end)

pub slices_all : (ws : List (List ℕ)) (at : ℕ) (values : List Value) (rest : List ℕ) → AreSlices ws at values rest → length ws ≤ at → list (trees_of (map tree_of values)) ≡ command_of ws
slices_all ws at values rest a all = ap (λ z. list (trees_of z)) (a.front ∙ ap (map bulk) (take_all at ws all))

-- such a command at the front is the first value
no_bytes : (xs : List ℕ) → length xs ≡ 0 → xs ≡ []
no_bytes [] e = refl
no_bytes (x ∷ xs) e = absurd (omega (arith, e))

pub spelled_gave : (most len : ℕ) (held : List ℕ) (ws us : List (List ℕ)) (p q : PartialValue) → IsFresh p → p.came ≡ 0 → IsSpelled (take len p.pending.items) ws → us ≡ ws → len ≤ length p.pending.items → 9 ≤ most → most < 2 ^ 32 → q.pending.items ≡ drop len p.pending.items → q.opens.items ≡ p.opens.items → q.done ≡ p.done → q.next ≡ p.next → q.came ≡ p.came → Reads most held p → Gave most held (command_of us) len q
spelled_gave most len held ws us p q fresh came spelled is inside few small pending opens done next came_is r =
    let items = p.pending.items in
    let none : r.taken ≡ [] = no_bytes r.taken (omega (arith, r.came, came)) in
    let held_is : held ≡ items = r.split ∙ ap (λ z. z ++ items) none in
    record {
      first = record {
        inside = omega (arith, ap length held_is, inside);
        text = subst (λ (z : List ℕ). IsText most max_depth (take len z) (command_of us)) (sym held_is)
            (subst (λ (z : List (List ℕ)). IsText most max_depth (take len items) (command_of z)) (sym is) (spelled_is_read (take len items) ws spelled most few small));
        few = omega (arith, spelled.short, length-take-le len items inside);
      };
      reads = record {
        taken = [];
        split = ap (drop len) held_is ∙ sym pending;
        came = omega (arith, came_is, came);
        same = λ y. rw (opens ∙ fresh.opens, done ∙ fresh.done, next ∙ fresh.next) refl;
      };
    }

-- a line with a number of one digit, and of two
pub one_digit : (kind n : ℕ) (b : List ℕ) → 4 ≤ length b → get_or b 0 0 ≡ kind → (48 ≤ get_or b 1 0) × (get_or b 1 0 ≤ 57) × (n ≡ get_or b 1 0 - 48) → get_or b 2 0 ≡ 13 → get_or b 3 0 ≡ 10 → b ≡ line kind (decimal n) ++ take (length b - 4) (drop 4 b)
one_digit kind n (a ∷ x ∷ y ∷ z ∷ rest) long first (low, high, is) cr lf =
    let ones : x ≡ 48 + n = omega (arith, low, is) in
    let behind : take (length (a ∷ x ∷ y ∷ z ∷ rest) - 4) rest ≡ rest = take_all (length (a ∷ x ∷ y ∷ z ∷ rest) - 4) rest (omega arith) in
    rw (decimal_digit n (omega (arith, high, is)), behind, ← first, ← ones, cr, lf) refl
one_digit kind n [] long first d cr lf = absurd (omega (arith, long))
one_digit kind n (a ∷ []) long first d cr lf = absurd (omega (arith, long))
one_digit kind n (a ∷ x ∷ []) long first d cr lf = absurd (omega (arith, long))
one_digit kind n (a ∷ x ∷ y ∷ []) long first d cr lf = absurd (omega (arith, long))

pub two_digits : (kind t n : ℕ) (b : List ℕ) → 5 ≤ length b → get_or b 0 0 ≡ kind → (48 ≤ get_or b 1 0) × (get_or b 1 0 ≤ 57) × (t ≡ get_or b 1 0 - 48) → (48 ≤ get_or b 2 0) × (get_or b 2 0 ≤ 57) × (n ≡ get_or b 2 0 - 48) → 10 ≤ t * 10 + n → get_or b 3 0 ≡ 13 → get_or b 4 0 ≡ 10 → b ≡ line kind (decimal (t * 10 + n)) ++ take (length b - 5) (drop 5 b)
two_digits kind t n (a ∷ w ∷ x ∷ y ∷ z ∷ rest) long first (t_low, t_high, t_is) (low, high, is) some cr lf =
    let tens : w ≡ 48 + t = omega (arith, t_low, t_is) in
    let ones : x ≡ 48 + n = omega (arith, low, is) in
    let above : (t * 10 + n) / 10 ≡ t = omega (arith, high, is) in
    let below : (t * 10 + n) % 10 ≡ n = omega (arith, high, is) in
    let behind : take (length (a ∷ w ∷ x ∷ y ∷ z ∷ rest) - 5) rest ≡ rest = take_all (length (a ∷ w ∷ x ∷ y ∷ z ∷ rest) - 5) rest (omega arith) in
    rw (decimal_step (t * 10 + n) some (omega (arith, t_high, t_is, high, is)), above, below, decimal_digit t (omega (arith, t_high, t_is)), behind, ← first, ← tens, ← ones, cr, lf) refl
two_digits kind t n [] long first d e some cr lf = absurd (omega (arith, long))
two_digits kind t n (a ∷ []) long first d e some cr lf = absurd (omega (arith, long))
two_digits kind t n (a ∷ w ∷ []) long first d e some cr lf = absurd (omega (arith, long))
two_digits kind t n (a ∷ w ∷ x ∷ []) long first d e some cr lf = absurd (omega (arith, long))
two_digits kind t n (a ∷ w ∷ x ∷ y ∷ []) long first d e some cr lf = absurd (omega (arith, long))

-- behind a length line in the one spelling stand its bytes
bulk_behind_line : (n : ℕ) (first : List ℕ) → n ≤ max_bulk → value_at 0 0 (line 36 (decimal n) ++ first) ≡ payload_at (Some n) first
unfolding value_at leaf_at bulk_at
bulk_behind_line n first few =
    ap (λ o. and_then o payload_at) ((count-reads max_bulk).again (decimal n ++ line_end) first (Some n) (inr (n, (decimal n, is_length max_bulk n (omega arith) few, refl), refl)))

pub cut_behind_line : (n : ℕ) (b first s rest front back : List ℕ) → b ≡ line 36 (decimal n) ++ first → n ≤ max_bulk → b ≡ text (bulk s) ++ rest → length s ≤ max_bulk → front ≡ take n first → back ≡ drop n first → IsCutAt n s rest first front back
cut_behind_line n b first s rest front back head few is short front_is back_is =
    let cut = payload_cut n first rest s (sym (bulk_behind_line n first few) ∙ ap (value_at 0 0) (sym head) ∙ bulk_is_read b s rest is short) in
    cut_at n s rest first front back cut.parts cut.count front_is back_is
