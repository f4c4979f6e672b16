use Rattle.std.proofs.Common.{◌≡◌, ◌∙◌, sym, refl, Some, None, [], append-nil}
use Rattle.proxy_engines.proofs.HostMoves.{sought_on, sought_none, stays_on, refused_is, with_refusal}
use Rattle.proxy_engines.specs.Host.{waiting_requests}
use Rattle.proxy_engines.proofs.link.Link.next_value.Goals as goal
use Rattle.proxy_engines.proofs.link.Link.next_value.Goals.{in-Ok-Some-Read, in-Ok-Some-Broken, in-Ok-None, in-Err}

pub returns-in-Some-clause-goes : goal.returns-in-Some-clause-goes
returns-in-Some-clause-goes g c = λ l H m.
    let same : Some c.in-Some.value ≡ c.self.inside.next = sym c.in-Some.is ∙ c.take.ensures.value in
    rw (same, ← c.self.view_is) (stays_on l _ H H m refl)

pub returns-clause-goes : goal.returns-clause-goes
returns-clause-goes g c =
    let none : c.self.inside.next ≡ None = sym c.take.ensures.value ∙ c.in_default.is in
    elim c.match-next_read.branch [
      | in-Ok-Some-Read w ↦
          let next = rw (w.in-Ok-Some-Read.field-0-is, w.in-Ok-Some-Read.field-0-0-is) at w.in-Ok-Some-Read.ensures.next.some in
          let whole = rw (w.in-Ok-Some-Read.field-0-is, w.in-Ok-Some-Read.field-0-0-is) at w.in-Ok-Some-Read.ensures.next.whole in
          let unrefused = whole (λ e. absurd cc) in
          rw w.result-is (λ l H m. rw (← c.self.view_is)
          (sought_on l _ c.next_read.new.self (Some w.in-Ok-Some-Read.value) H m none (rw (← c.self.view_is) at c.requires.whole) c.next_read.ensures.keeps.0 c.next_read.ensures.keeps.1
          (λ b rs h. with_refusal c.next_read.new.self b rs (waiting_requests (Some w.in-Ok-Some-Read.value)) None unrefused (next b rs h))))
      | in-Ok-Some-Broken w ↦
          let next = rw (w.in-Ok-Some-Broken.field-0-is, w.in-Ok-Some-Broken.field-0-0-is) at w.in-Ok-Some-Broken.ensures.next.some in
          let told = rw (w.in-Ok-Some-Broken.field-0-is, w.in-Ok-Some-Broken.field-0-0-is) at w.in-Ok-Some-Broken.ensures.next.told in
          rw w.result-is (λ l H m. rw (c.take.ensures.after ∙ sym none, ← c.self.view_is)
          (sought_none l _ c.next_read.new.self H m none (rw (← c.self.view_is) at c.requires.whole) c.next_read.ensures.keeps.0 c.next_read.ensures.keeps.1
          (λ b rs h. rw (refused_is c.next_read.new.self.values.refusal (told refl)) (next b rs h))))
      | in-Ok-None w ↦
          let unrefused = (rw w.in-Ok-None.field-0-is at w.in-Ok-None.ensures.next.whole) (λ e. absurd cc) in
          let kept = rw w.in-Ok-None.field-0-is at w.in-Ok-None.ensures.next.none in
          rw w.result-is (λ l H m. rw (c.take.ensures.after ∙ sym none, ← c.self.view_is)
          (sought_none l _ c.next_read.new.self H m none (rw (← c.self.view_is) at c.requires.whole) c.next_read.ensures.keeps.0 c.next_read.ensures.keeps.1
          (λ b rs h. with_refusal c.next_read.new.self b rs [] None unrefused (rw (append-nil rs) (kept b rs h)))))
      | in-Err w ↦ rw w.result-is tt
    ]

pub returns-clause-rests : goal.returns-clause-rests
returns-clause-rests g c =
    let none : c.self.inside.next ≡ None = sym c.take.ensures.value ∙ c.in_default.is in
    elim c.match-next_read.branch [
      | in-Ok-Some-Read w ↦ rw w.result-is tt
      | in-Ok-Some-Broken w ↦ rw w.result-is tt
      | in-Ok-None w ↦ rw w.result-is tt
      | in-Err w ↦ rw w.result-is (λ l H m. rw (c.take.ensures.after ∙ sym none, ← c.self.view_is)
          (sought_none l _ c.next_read.new.self H m none (rw (← c.self.view_is) at c.requires.whole) c.next_read.ensures.keeps.0 c.next_read.ensures.keeps.1
          (λ b rs h. with_refusal c.next_read.new.self b rs [] None w.in-Err.ensures.err.1 (rw (append-nil rs) (w.in-Err.ensures.err.0 b rs h)))))
    ]
