use Rattle.std.proofs.Common.{◌≡◌, ◌+◌, ◌++◌, ◌∷◌, [], ℕ, List, get_or, take, drop, ap, sym, subst, ◌∙◌, append-nil, append_assoc}
use Rattle.std.proofs.lemmas.Result.{err_from_is_err_and}
use Rattle.std.proofs.lemmas.List.{take_more, take_all, take-append-drop, drop_more}
use Rattle.key_owners.specs.Lines.{IsFaultAt, MemoryOr, StopsAt, TakesIn, Telling}
use Rattle.key_owners.proofs.TellingLemmas.{memory_or, takes_join}
use Rattle.key_owners.proofs.lines.KeyLines.take.Goals as goal

pub loop-byte-init : goal.loop-byte-init
loop-byte-init c = ([], sym (append-nil c.args.out.now.items), c.takes_nothing.ensures)

pub loop-byte-preserved : goal.loop-byte-preserved
loop-byte-preserved c =
    let bytes = c.args.bytes.now in
    let n = c.loop-byte.byte-index in
    let (before, held, taken) = c.loop-byte.invariant in
    let (text, written, takes) = c.in_ok-take_byte.ensures.ok in
    let joined = takes_join c.args.self.now c.loop-byte.self c.take_byte.new.self (take n bytes) (get_or bytes n 0 ∷ []) before text taken takes in (
      before ++ text,
      written ∙ ap (λ l. l ++ text) held ∙ append_assoc c.args.out.now.items before text,
      subst (λ b. TakesIn c.args.self.now b c.take_byte.new.self (before ++ text)) (sym (take_more bytes n 0 c.loop-byte-test.true)) joined,
    )

pub returns-clause-ok : goal.returns-clause-ok
returns-clause-ok c =
    let (text, written, takes) = c.loop-byte.invariant in
    (text, written, subst (λ b. TakesIn c.args.self.now b c.loop-byte.self text) (take_all c.loop-byte.byte-index c.args.bytes.now c.loop-byte-test.false) takes)

pub returns-in_err-take_byte-clause-refused : goal.returns-in_err-take_byte-clause-refused
returns-in_err-take_byte-clause-refused c =
    let bytes = c.args.bytes.now in
    let n = c.loop-byte.byte-index in
    let new = c.take_byte.new.self in
    let e = c.in_err-take_byte.field-0.0 in
    let (before, held, taken) = c.loop-byte.invariant in
    let stops : MemoryOr e ((text : List ℕ) × (c.take_byte.new.out.items ≡ c.args.out.now.items ++ text) × StopsAt c.args.self.now bytes new text e) = memory_or e _ _ (λ f. (
      before,
      f.1 ∙ held,
      record {
        taken = take n bytes;
        left = drop n bytes;
        parts = sym (take-append-drop n bytes);
        takes = subst (λ (t : Telling). TakesIn c.args.self.now (take n bytes) t before) (sym f.0) taken;
        is_fault = subst (λ (t : Telling). IsFaultAt t (drop n bytes) e) (sym f.0) (subst (λ b. IsFaultAt c.loop-byte.self b e) (sym (drop_more bytes n 0 c.loop-byte-test.true)) (f.2 (drop (n + 1) bytes)));
      },
    )) c.in_err-take_byte.ensures.refused in
    let (_, result_is, error_is) = err_from_is_err_and c.from_residual.result c.from_residual.ensures.1 in
    rw (result_is, error_is) stops
