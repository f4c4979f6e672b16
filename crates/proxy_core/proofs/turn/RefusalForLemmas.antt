-- How a core is refused that has not come to be: by a setting that is out of its range, or for want of memory.
use Rattle.std.proofs.Common.{◌≡◌, ◌∙◌, ℕ, Option, Some, None, Result, Ok, Err, IfErr, IsErrOf, MatchOption, refl, sym, ap, subst}
use Rattle.ejector.specs.declared.settings.Field.{Field}
use Rattle.ketama.specs.Continuum.{Continuum}
use Rattle.ejector.specs.declared.settings.Settings.{Settings}
use Rattle.ejector.specs.declared.error.EjectError.{EjectError}
use Rattle.ejector.specs.Ejector.{Ejection}
use Rattle.ejector.specs.Settings.{first_fault}
use Rattle.proxy_history.specs.Proxy.{Proxy, rules_of}
use Rattle.proxy_core.specs.Core.{refusal_for}
use Rattle.proxy_history.specs.declared.refusal.Refusal.{Refusal}
use Rattle.proxy_history.specs.declared.refusal.Refusal.TheVariants as refusal

-- by the first such setting, or else for want of memory
abbrev pub IsRefusedBy : {A : Type 0} → Option Field → Result A Refusal → Type 0
IsRefusedBy fault r = MatchOption fault (IfErr r (λ e. e ≡ refusal.NoMemory)) (λ field. IsErrOf r (refusal.BadSettings field))

pub refused_by-none : {A : Type 0} (fault : Option Field) (r : Result A Refusal) → fault ≡ None → IfErr r (λ e. e ≡ refusal.NoMemory) → IsRefusedBy fault r
refused_by-none fault r e h = subst (λ o. IsRefusedBy o r) (sym e) h

pub refused_by-some : (A : Type 0) (fault : Option Field) (field : Field) → fault ≡ Some field → IsRefusedBy {A = A} fault (Err (refusal.BadSettings field))
refused_by-some A fault field e = subst (λ o. IsRefusedBy {A = A} o (Err (refusal.BadSettings field))) (sym e) refl

-- where an ejector has come to be, no setting is out of its range
none_is-made : (e : Ejection) (fault : Option Field) → MatchOption fault (Unit {0}) (λ field. IsErrOf {T = Ejection} (Ok e) (EjectError.BadSettings field)) → fault ≡ None
none_is-made e None h = refl
none_is-made e (Some field) h = absurd cc

pub refused_by-range : {A : Type 0} (ring : Continuum) (settings : Settings) (n : ℕ) → n ≡ ring.hosts → (r : Result A Refusal) → IfErr r (λ e. e ≡ refusal.NoMemory) → (e : Ejection)
    → MatchOption (first_fault (record { hosts = n; settings = settings })) (Unit {0}) (λ field. IsErrOf {T = Ejection} (Ok e) (EjectError.BadSettings field)) → IsRefusedBy (first_fault (rules_of ring settings)) r
refused_by-range ring settings n hosts r h e made =
    refused_by-none _ r (ap (λ m. first_fault (record { hosts = m; settings = settings })) (sym hosts) ∙ none_is-made e _ made) h

-- and where none has, its refusal is told
told_as : (fault : Option Field) (e : EjectError) (r : Refusal) → r ≡ refusal_for e → MatchOption fault (e ≡ EjectError.NoMemory) (λ field. IsErrOf {T = Ejection} (Err e) (EjectError.BadSettings field))
    → IsRefusedBy {A = Proxy} fault (Err r)
told_as None e r is h = is ∙ ap refusal_for h
told_as (Some field) e r is h =
    let bad : e ≡ EjectError.BadSettings field = cc in
    ap Err (is ∙ ap refusal_for bad)

pub refused_by-error : (ring : Continuum) (settings : Settings) (n : ℕ) → n ≡ ring.hosts → (e : EjectError) (r : Refusal) → r ≡ refusal_for e
    → MatchOption (first_fault (record { hosts = n; settings = settings })) (e ≡ EjectError.NoMemory) (λ field. IsErrOf {T = Ejection} (Err e) (EjectError.BadSettings field))
    → IsRefusedBy {A = Proxy} (first_fault (rules_of ring settings)) (Err r)
refused_by-error ring settings n hosts e r is h =
    subst (λ m. IsRefusedBy {A = Proxy} (first_fault (record { hosts = m; settings = settings })) (Err r)) hosts (told_as _ e r is h)
