-- What holds of every list of marks, from every opening state on.
use Rattle.std.specs.Prelude.{◌≡◌, ◌≢◌, ℕ, true, false, ◌-◌, ◌*◌, ◌≤◌, min, max, List, [], ◌∷◌, ◌++◌}
use Rattle.ejector.specs.declared.mark.Mark.{Mark}
use Rattle.ejector.specs.declared.mark.Mark.TheVariants.{Good, Bad, Sweep}
use Rattle.ejector.specs.declared.settings.Rules.{Rules}
use Rattle.ejector.specs.Deeds.{ejects, returns}
use Rattle.ejector.specs.State.{State, host_of, is_out, out_count, at_moment}
use Rattle.ejector.specs.Opening.{IsOpening}
use Rattle.ejector.specs.Trips.{may_eject, most_out}
use Rattle.ejector.specs.Sweeps.{rates, out_at_turn}
use Rattle.ejector.specs.Ejection.{state, deed_after}

-- OPENING STATES

-- before the first mark the state is the opening
abbrev pub OpeningComesFirst : Type 0
OpeningComesFirst = (R : Rules) (O : State) → IsOpening R O → state R O [] ≡ O

-- what marks lead to from an opening state is one again
abbrev pub OpeningsStay : Type 0
OpeningsStay = (R : Rules) (O : State) (marks : List Mark) → IsOpening R O
    → IsOpening R (state R O marks)

-- a state may be handed on at any mark: later marks lead from it where they lead from the opening after the marks before
abbrev pub StateGoesOn : Type 0
StateGoesOn = (R : Rules) (O : State) (later before : List Mark)
    → state R (state R O before) later ≡ state R O (later ++ before)

-- THE LIMIT

-- at each beginning of a list of marks no more hosts are out than the limit allows
abbrev pub FewAreOut : Type 0
FewAreOut = (R : Rules) (O : State) (later before : List Mark) (all : List Mark) → IsOpening R O
    → all ≡ later ++ before → out_count (state R O before) ≤ most_out R

-- WHAT A MARK DOES

-- the state before a mark decides the state after it, and nothing else of the list or the opening does
abbrev pub StateDecidesNext : Type 0
StateDecidesNext = (R : Rules) (m : Mark) (O P : State) (marks others : List Mark)
    → state R O marks ≡ state R P others → state R O (m ∷ marks) ≡ state R P (m ∷ others)

-- a host's time is over at a sweep: an ejection lasts base_ms times the multiplier, at most max_ms, from its start on
abbrev pub IsTimeOver : Rules → State → ℕ → ℕ → Type 0
IsTimeOver R x h t =
    min (R.settings.base_ms * (host_of x h).multiplier) R.settings.max_ms
    ≤ max x.clock t - (host_of x h).start

-- a host that is out comes back only at a sweep at which its time is over
abbrev pub OutUntilTimeIsOver : Type 0
OutUntilTimeIsOver = (R : Rules) (O : State) (m : Mark) (marks : List Mark) (h : ℕ)
    → is_out (state R O marks) h ≡ true → is_out (state R O (m ∷ marks)) h ≡ false
    → (t : ℕ) × (m ≡ Sweep t) × IsTimeOver R (state R O marks) h t

-- The sweep at this moment brings the host back, which is out afterwards exactly if this very sweep ejects it again.
pub record BringsBack (R : Rules) (O : State) (marks : List Mark) (h t : ℕ) : Type 0 where
  pub returned : returns h (deed_after R (state R O marks) (Sweep t)) ≡ true
  pub out_again : is_out (state R O (Sweep t ∷ marks)) h
      ≡ ejects h (deed_after R (state R O marks) (Sweep t))

-- a sweep at which the time of a host that is out is over brings it back
abbrev pub BackOnceTimeIsOver : Type 0
BackOnceTimeIsOver = (R : Rules) (O : State) (marks : List Mark) (h t : ℕ)
    → is_out (state R O marks) h ≡ true → IsTimeOver R (state R O marks) h t
    → BringsBack R O marks h t

-- one good result puts a streak to 0
abbrev pub GoodEndsStreak : Type 0
GoodEndsStreak = (R : Rules) (O : State) (marks : List Mark) (h t : ℕ)
    → (host_of (state R O (Good h t ∷ marks)) h).streak ≡ 0

-- OTHER HOSTS

-- a result of another host changes nothing of a host
abbrev pub OthersChangeNothing : Type 0
OthersChangeNothing = (R : Rules) (O : State) (marks : List Mark) (h k t : ℕ) → h ≢ k
    → (host_of (state R O (Good k t ∷ marks)) h ≡ host_of (state R O marks) h)
    × (host_of (state R O (Bad k t ∷ marks)) h ≡ host_of (state R O marks) h)

-- for a host, a mark finds the same after one state and after another: for a bad result the limit allows an ejection after both or neither;
-- for a sweep all rates are the same, and at the host's turn the limit allows an ejection after both or neither
abbrev pub FindsTheSame : Rules → ℕ → Mark → State → State → Type 0
FindsTheSame R h (Good k t) x y = Unit {0}
FindsTheSame R h (Bad k t) x y = may_eject R (out_count x) ≡ may_eject R (out_count y)
FindsTheSame R h (Sweep t) x y = (rates R (at_moment t x) ≡ rates R (at_moment t y))
    × (may_eject R (out_at_turn R (at_moment t x) h)
    ≡ may_eject R (out_at_turn R (at_moment t y) h))

-- what becomes of a host follows from its own state and the clock; other hosts matter through the limit and the rates of a sweep alone
abbrev pub OthersMatterByLimitAndRates : Type 0
OthersMatterByLimitAndRates =
    (R : Rules) (m : Mark) (O P : State) (marks others : List Mark) (h : ℕ)
    → host_of (state R O marks) h ≡ host_of (state R P others) h
    → (state R O marks).clock ≡ (state R P others).clock
    → FindsTheSame R h m (state R O marks) (state R P others)
    → host_of (state R O (m ∷ marks)) h ≡ host_of (state R P (m ∷ others)) h
