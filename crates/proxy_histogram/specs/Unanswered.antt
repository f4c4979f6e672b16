-- Which commands are unanswered: the lists are of the moments when these were accepted, the oldest first.
use Rattle.std.specs.Prelude.{◌≡◌, ◌-◌, ◌<◌, ◌⊎◌, ◌++◌, ℕ, List, [], Some, All, length, map, take, drop, replicate, flat_map, slice_get}
use Rattle.proxy_histogram.specs.Values.{IsOf}
use Rattle.proxy_histogram.specs.declared.histogram.Histogram.{Histogram}
use Rattle.proxy_histogram.specs.declared.unanswered.Run.{Run}

-- the moments of commands that were accepted at one moment
abbrev pub moments_of_run : Run → List ℕ
moments_of_run run = replicate run.count run.since

-- the moments of a first run and of later ones
abbrev pub moments_of : Run → List Run → List ℕ
moments_of first later = moments_of_run first ++ flat_map moments_of_run later

-- no run is empty, unless there is none
pub record HasNoEmptyRun (run : Run) (runs : List Run) : Type 0 where
  pub first : run.count ≡ 0 → runs ≡ []
  pub later : All (λ r. 0 < r.count) runs

-- so many further commands count as accepted at the moment of the last one before them
pub record JoinsLast (old new : List ℕ) (count : ℕ) : Type 0 where
  pub moment : ℕ
  pub last : slice_get old (length old - 1) ≡ Some moment
  pub added : new ≡ old ++ replicate count moment

-- So many of the oldest commands are answered at this moment, or all where there are fewer: the histogram gets the time that each
-- of them took, and no other value.
pub record AnswersOldest (old new : List ℕ) (now count : ℕ) (durations durations' : Histogram) : Type 0 where
  pub left : new ≡ drop count old
  pub recorded : (values : List ℕ) → IsOf values durations
      → IsOf (values ++ map (λ moment. now - moment) (take count old)) durations'

-- Further parts are sent at this moment, or count as sent with the last ones before them. Then so many of the oldest are answered at it.
pub record NotesParts (old new : List ℕ) (now sent answered : ℕ) (durations durations' : Histogram) : Type 0 where
  pub with_sent : List ℕ
  pub grown : (with_sent ≡ old ++ replicate sent now) ⊎ JoinsLast old with_sent sent
  pub rest : AnswersOldest with_sent new now answered durations durations'
