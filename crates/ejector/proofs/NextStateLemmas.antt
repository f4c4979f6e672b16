-- What is kept of the hosts goes on by each mark as the state of the marks does.
use Rattle.std.proofs.Common.{◌≡◌, ℕ, ◌<◌, max, List, ◌∷◌, ◌++◌, length, take, drop, sym, ap, ◌∙◌, subst}
use Rattle.std.proofs.Math.Seq.{take-append_seam}
use Rattle.ejector.specs.declared.answer.Trip.{Trip}
use Rattle.ejector.specs.declared.answer.Swept.{Swept}
use Rattle.ejector.specs.declared.mark.Mark.{Mark}
use Rattle.ejector.specs.declared.mark.Mark.TheVariants.{Good, Bad, Sweep}
use Rattle.ejector.specs.declared.host.HostState.{HostState}
use Rattle.ejector.specs.declared.settings.Rules.{Rules}
use Rattle.ejector.specs.State.{State, at_moment}
use Rattle.ejector.specs.Ejection.{state, trip, sweep_answer, trip_of, swept_of, deed_by}
use Rattle.ejector.specs.Ejector.{Ejection}
use Rattle.ejector.specs.NextState.{next}
use Rattle.ejector.specs.Opening.{IsOpening}
use Rattle.ejector.specs.Counting.{with_good_result, with_bad_result, trip_then, swept_hosts, swept_counts}
use Rattle.ejector.specs.Laws.{StateDecidesNext}
use Rattle.ejector.proofs.DeedLemmas.{next_is}
use Rattle.ejector.proofs.CountingLemmas.{good_link, bad_link, sweep_link, trip_link, swept_link}

-- lists of one state have one state with a mark more
pub same_next : StateDecidesNext
same_next R m O P marks others e = next_is R O m marks ∙ ap (next R m) e ∙ sym (next_is R P m others)

-- the state with one mark more, where that of the marks before is x
state_next : (R : Rules) (O : State) (m : Mark) (marks : List Mark) (x : State) → state R O marks ≡ x → next R m x ≡ state R O (m ∷ marks)
state_next R O m marks x e = sym (next_is R O m marks ∙ ap (next R m) e)

-- the same for what an ejector has
pub told : (e : Ejection) (R : Rules) (x y : State) (m : Mark) → record { rules = R; state = x } ≡ e → next R m x ≡ y
    → (O : State) (marks : List Mark) → state e.rules O marks ≡ e.state → y ≡ state e.rules O (m ∷ marks)
told e R x y m v n =
    subst (λ (e : Ejection). (O : State) (marks : List Mark) → state e.rules O marks ≡ e.state → y ≡ state e.rules O (m ∷ marks)) v
    (λ O marks known. sym n ∙ state_next R O m marks x known)

-- WHAT IS KEPT

-- the state of hosts that were written whole into their vector
written : (now clock n : ℕ) (new hosts old : List HostState) → now ≡ clock → length new ≡ n → new ≡ hosts
    → (let x : State = record { clock = clock; hosts = hosts } in x ≡ record { clock = now; hosts = take n (new ++ drop (length new) old) })
written now clock n new hosts old e l is =
    let whole = ap (λ (k : ℕ). take k (new ++ drop (length new) old)) (sym l) ∙ take-append_seam new (drop (length new) old) in
    ap (λ (k : ℕ). at_clock k hosts) (sym e) ∙ ap (at_clock now) (sym (whole ∙ is))
  where
    at_clock : ℕ → List HostState → State
    at_clock k xs = record { clock = k; hosts = xs }

pub good_next : (R : Rules) (x : State) (h t now n : ℕ) (new hosts : List HostState) → IsOpening R x → h < R.hosts → now ≡ max x.clock t
    → hosts ≡ x.hosts → length new ≡ n → new ≡ with_good_result h hosts
    → next R (Good h t) x ≡ record { clock = now; hosts = take n (new ++ drop (length new) x.hosts) }
good_next R x h t now n new hosts w l e same long is =
    written now (max x.clock t) n new _ x.hosts e long (is ∙ ap (with_good_result h) same ∙ sym (good_link R (at_moment t x) h t w.hosts l))

pub bad_next : (R : Rules) (x : State) (h t now n : ℕ) (new hosts : List HostState) → IsOpening R x → h < R.hosts → now ≡ max x.clock t
    → hosts ≡ x.hosts → length new ≡ n → new ≡ with_bad_result R now h hosts
    → next R (Bad h t) x ≡ record { clock = now; hosts = take n (new ++ drop (length new) x.hosts) }
bad_next R x h t now n new hosts w l e same long is =
    let here = ap (with_bad_result R now h) same ∙ ap (λ (k : ℕ). with_bad_result R k h x.hosts) e in
    written now (max x.clock t) n new _ x.hosts e long (is ∙ here ∙ sym (bad_link R (at_moment t x) h t w.hosts l))

pub sweep_next : (R : Rules) (x : State) (t now n : ℕ) (new hosts : List HostState) → IsOpening R x → now ≡ max x.clock t
    → hosts ≡ x.hosts → length new ≡ n → new ≡ swept_hosts R now hosts
    → next R (Sweep t) x ≡ record { clock = now; hosts = take n (new ++ drop (length new) x.hosts) }
sweep_next R x t now n new hosts w e same long is =
    let here = ap (swept_hosts R now) same ∙ ap (λ (k : ℕ). swept_hosts R k x.hosts) e in
    written now (max x.clock t) n new _ x.hosts e long (is ∙ here ∙ sym (sweep_link R (at_moment t x) t w.hosts))

-- ANSWERS

trip_is : (R : Rules) (O : State) (h t : ℕ) (marks : List Mark) (x : State) → state R O marks ≡ x → h < R.hosts → trip R O (Bad h t) marks ≡ trip_then R h x.hosts
trip_is R O h t marks x e l = ap (λ (y : State). trip_of (deed_by R (at_moment t y) (Bad h t))) e ∙ trip_link R (at_moment t x) h t l

swept_is : (R : Rules) (O : State) (t : ℕ) (marks : List Mark) (x : State) → state R O marks ≡ x → length x.hosts ≡ R.hosts
    → sweep_answer R O (Sweep t) marks ≡ swept_counts R (max x.clock t) x.hosts
swept_is R O t marks x e l = ap (λ (y : State). swept_of (deed_by R (at_moment t y) (Sweep t))) e ∙ swept_link R (at_moment t x) t l

-- the same for what an ejector has
pub trip_told : (e : Ejection) (R : Rules) (x : State) (h t : ℕ) → record { rules = R; state = x } ≡ e → h < R.hosts → (a : Trip) → a ≡ trip_then R h x.hosts
    → (O : State) (marks : List Mark) → state e.rules O marks ≡ e.state → a ≡ trip e.rules O (Bad h t) marks
trip_told e R x h t v l a is =
    subst (λ (e : Ejection). (O : State) (marks : List Mark) → state e.rules O marks ≡ e.state → a ≡ trip e.rules O (Bad h t) marks) v
    (λ O marks known. is ∙ sym (trip_is R O h t marks x known l))

pub swept_told : (e : Ejection) (R : Rules) (x : State) (t : ℕ) → record { rules = R; state = x } ≡ e → length x.hosts ≡ R.hosts
    → (a : Swept) → a ≡ swept_counts R (max x.clock t) x.hosts
    → (O : State) (marks : List Mark) → state e.rules O marks ≡ e.state → a ≡ sweep_answer e.rules O (Sweep t) marks
swept_told e R x t v l a is =
    subst (λ (e : Ejection). (O : State) (marks : List Mark) → state e.rules O marks ≡ e.state → a ≡ sweep_answer e.rules O (Sweep t) marks) v
    (λ O marks known. is ∙ sym (swept_is R O t marks x known l))
