-- Words of the board.
use Rattle.std.specs.Prelude.{IfSome, IfNone}
use Rattle.std.proofs.Common.{◌≡◌, ◌<◌, ℕ, Option, Some, None, List, Contains, refl, sym, ap, arith}
use Rattle.proxy_generations.specs.Events.{Event, draining}
use Rattle.proxy_generations.specs.History.{IsHistory}
use Rattle.proxy_generations.specs.Phase.{IsPhase, IsTask}
use Rattle.proxy_generations.specs.declared.phase.Phase.{Phase}
use Rattle.proxy_generations.specs.declared.phase.Phase.TheVariants.{Unopened, Serving, Draining, GivingUp, Stopped}
use Rattle.proxy_generations.specs.Laws.{DrainingAreOlder}
use Rattle.proxy_server.specs.Words.{AreShown, IsWord, code_of}
use Rattle.proxy_server.specs.Board.{Shows}
use Rattle.proxy_server.specs.declared.words.Shown.{Shown}

-- the word of nobody shows none
pub nobody_shows : (n : ℕ) (task : Phase) → IsWord 3 n task → ⊥
nobody_shows n task (few, is) = omega arith

same_code : (t u : Phase) → code_of t < 3 → code_of t ≡ code_of u → t ≡ u
same_code Draining Draining few e = refl
same_code GivingUp GivingUp few e = refl
same_code Stopped Stopped few e = refl
same_code Unopened u few e = absurd (omega arith)
same_code Serving u few e = absurd (omega arith)
same_code t u few e = absurd (omega arith)

-- a word shows one generation with one task
pub same_number : (w n m : ℕ) (t u : Phase) → IsWord w n t → IsWord w m u → n ≡ m
same_number w n m t u (few, is) (small, also) = omega arith

pub same_task : (w n m : ℕ) (t u : Phase) → IsWord w n t → IsWord w m u → t ≡ u
same_task w n m t u (few, is) (small, also) = same_code t u few (omega arith)

pub told_number : (shown : Shown) (n : ℕ) (task : Phase) → Some shown ≡ Some (record { number = n; task = task }) → shown.number ≡ n
told_number shown n task e = let same : shown ≡ record { number = n; task = task } = cc in ap (λ s. s.number) same

module _ {H : Type 0} where
  -- a generation has one phase
  pub one_phase : (es : List (Event H)) (n : ℕ) (p q : Phase) → IsPhase p es n → IsPhase q es n → p ≡ q
  one_phase es n Unopened q a b = sym (b.awaits.1 (a.awaits.0 refl))
  one_phase es n Serving q a b = sym (b.serves.1 (a.serves.0 refl))
  one_phase es n Draining q a b = sym (b.drains.1 (a.drains.0 refl))
  one_phase es n GivingUp q a b = sym (b.gives_up.1 (a.gives_up.0 refl))
  one_phase es n Stopped q a b = sym (b.stops.1 (a.stops.0 refl))

  -- one that drains has a task with a code
  pub has_code : DrainingAreOlder H → (es : List (Event H)) → IsHistory es → (n : ℕ) (task : Phase) → Contains (draining es) n → IsPhase task es n → code_of task < 3
  has_code older es h n Unopened c p = absurd ((older es h n c).1 (p.awaits.0 refl))
  has_code older es h n Serving c p = absurd ((older es h n c).0 (p.serves.0 refl))
  has_code older es h n Draining c p = omega arith
  has_code older es h n GivingUp c p = omega arith
  has_code older es h n Stopped c p = omega arith

  -- the task by the words that show all
  pub task_by : (o : Option Phase) (words : List ℕ) (n : ℕ) (es : List (Event H)) → IfSome o (λ task. AreShown words n task)
      → IfNone o ((task : Phase) → AreShown words n task → ⊥) → Shows words es → IsTask o es n
  task_by None words n es some none shows = λ c. let (task, shown) = shows.all n c in none task shown
  task_by (Some task) words n es some none shows = shows.only n task some
