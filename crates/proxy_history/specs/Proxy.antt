-- What contracts see of a proxy that keeps a history.
use Rattle.std.specs.Prelude.{◌≡◌, ◌⊎◌, ℕ, List, ◌∷◌, reverse}
use Rattle.ketama.specs.Continuum.{Continuum}
use Rattle.ejector.specs.declared.settings.Rules.{Rules}
use Rattle.ejector.specs.declared.settings.Settings.{Settings}
use Rattle.ejector.specs.Ejector.{Ejection}
use Rattle.ejector.specs.State.{fresh_state}
use Rattle.proxy_history.specs.Setting.{Setting}
use Rattle.proxy_history.specs.History.{History, Step}
use Rattle.proxy_history.specs.Past.{past}
use Rattle.proxy_history.specs.Legal.{MayFollow, IsCause}
use Rattle.proxy_history.specs.declared.event.Event.{Event}
use Rattle.proxy_history.specs.declared.refusal.Refusal.{Refusal}
use Rattle.proxy_history.specs.declared.refusal.Refusal.TheVariants as refusal

-- its setting, and its steps, the oldest first
pub record Proxy : Type 0 where
  pub setting : Setting
  pub steps : List Step

-- the setting of a ring, and of outlier detection that goes on from what was handed on
abbrev pub setting_from : Continuum → Ejection → Setting
setting_from ring from = record { ring = ring; rules = from.rules; opening = from.state }

-- the rules for the hosts of a ring
abbrev pub rules_of : Continuum → Settings → Rules
rules_of ring settings = record { hosts = ring.hosts; settings = settings }

-- the setting of a ring and these settings, where nothing was told of the hosts
abbrev pub setting_of : Continuum → Settings → Setting
setting_of ring settings =
    setting_from ring
    (record { rules = rules_of ring settings; state = fresh_state (rules_of ring settings) })

-- the history of what is kept
abbrev pub history_in : Proxy → History
history_in k = reverse k.steps

-- A step of this pass and event was added, with the answer that it has there; the setting stays.
pub record IsStep (old new : Proxy) (pass : ℕ) (event : Event) (s : Step) : Type 0 where
  pub pass_is : s.pass ≡ pass
  pub event_is : s.event ≡ event
  pub may_follow : MayFollow old.setting (past old.setting (history_in old)) s
  pub history : history_in new ≡ s ∷ history_in old
  pub setting : new.setting ≡ old.setting

-- The refusal is for want of memory, or has its cause.
abbrev pub HasCause : Proxy → Event → Refusal → Type 0
HasCause k event r = (r ≡ refusal.NoMemory) ⊎ IsCause k.setting (history_in k) event r
