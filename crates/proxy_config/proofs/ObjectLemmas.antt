-- The members of an object, and the keys that it gives.
use Rattle.std.proofs.Common.{◌≡◌, ℕ, zero, suc, ◌<◌, List, [], ◌∷◌, map, length, get_or, Any, Some, String, Global, string_bytes, refl, sym, ap, ◌∙◌, subst, inl, inr, codes, arith}
use Rattle.std.proofs.lemmas.List.{get_or_default}
use Rattle.std.specs.Map.{keys_of}
use Rattle.serde_json.specs.Data.{Data, null, boolean, number, string, array, object, Members}
use Rattle.serde_json.specs.Find.{as_object}
use Rattle.serde_json.specs.View.{members_view}
use Rattle.serde_json.specs.declared.value.Value.{Value}
use Rattle.proxy_config.specs.File.{IsUnknown, HasUnknownKey, keys_given, AllFit, IsObject, IsSettings, IsTold, IsRefusal, IsFaultOf, MemoryOr}
use Rattle.proxy_config.specs.Table.{keys}
use Rattle.proxy_config.specs.Values.{Values}
use Rattle.proxy_config.specs.declared.error.ConfigError.{ConfigError}
use Rattle.proxy_config.specs.declared.error.ConfigError.TheVariants.{Memory, Fault}
use Rattle.proxy_config.proofs.ElementLemmas.{Any-from_place}

pub is_object : (d : Data) (ms : Members) → Some ms ≡ as_object d → d ≡ object ms
is_object null ms e = absurd (cc)
is_object (boolean b) ms e = absurd (cc)
is_object (number n) ms e = absurd (cc)
is_object (string s) ms e = absurd (cc)
is_object (array ds) ms e = absurd (cc)
is_object (object ns) ms e = cc

keys_seen : (es : List (String Global × Value)) → keys_given (members_view es) ≡ map string_bytes (keys_of es)
keys_seen [] = refl
keys_seen (e ∷ es) = ap (λ ks. string_bytes e.0 ∷ ks) (keys_seen es)

at_place : {A B : Type 0} (f : A → B) (xs : List A) (k : ℕ) (d : A) → get_or (map f xs) k (f d) ≡ f (get_or xs k d)
at_place f [] k d = refl
at_place f (x ∷ xs) zero d = refl
at_place f (x ∷ xs) (suc k) d = at_place f xs k d

as_long : {A B : Type 0} (f : A → B) (xs : List A) → length (map f xs) ≡ length xs
as_long f [] = refl
as_long f (x ∷ xs) = ap suc (as_long f xs)

any_given : (ns : List (String Global)) → Any (λ n. IsUnknown (string_bytes n)) ns → Any IsUnknown (map string_bytes ns)
any_given ns (k, name, within, is, unknown) = (k, string_bytes name, omega (arith, as_long string_bytes ns, within), at_place string_bytes ns k name ∙ ap string_bytes is, unknown)

any_name : (ns : List (String Global)) → Any IsUnknown (map string_bytes ns) → Any (λ n. IsUnknown (string_bytes n)) ns
any_name ns (k, key, k_within, is, unknown) =
    let within : k < length ns = omega (arith, as_long string_bytes ns, k_within) in
    Any-from_place (λ n. IsUnknown (string_bytes n)) ns k within (λ d.
    let e : string_bytes (get_or ns k d) ≡ key = sym (at_place string_bytes ns k d) ∙ get_or_default (map string_bytes ns) k (string_bytes d) key k_within ∙ is in
    rw e unknown)

pub unknown_given : (es : List (String Global × Value)) → Any (λ n. IsUnknown (string_bytes n)) (keys_of es) → HasUnknownKey (members_view es)
unknown_given es h = rw (keys_seen es) (any_given (keys_of es) h)

pub unknown_name : (es : List (String Global × Value)) → HasUnknownKey (members_view es) → Any (λ n. IsUnknown (string_bytes n)) (keys_of es)
unknown_name es h = let g : Any IsUnknown (map string_bytes (keys_of es)) = rw (keys_seen es) at h in any_name (keys_of es) g

-- ---- what is told of an object

pub told_unknown : (bytes : List ℕ) (ms : Members) → IsObject bytes ms → HasUnknownKey ms → IsTold bytes (codes "unknown key")
told_unknown bytes ms is u = inr (inl (refl, (ms, is, u)))

pub read_settings : (bytes : List ℕ) (ms : Members) (file : Data) (v : Values) → IsObject bytes ms → (¬ HasUnknownKey ms) → file ≡ object ms → AllFit keys file v → IsSettings bytes v
read_settings bytes ms file v is known o fit =
    let P : Data → Type 0 = λ d. AllFit keys d v in
    record { members = ms; is_object = is; known = known; fit = subst P o fit }

pub refuses : (bytes : List ℕ) (ms : Members) (file : Data) (e : ConfigError) → IsObject bytes ms → (¬ HasUnknownKey ms) → file ≡ object ms → MemoryOr (IsFaultOf file) e → IsRefusal bytes e
refuses bytes ms file Memory is known o f = tt
refuses bytes ms file (Fault words) is known o f =
    let P : Data → Type 0 = λ d. IsFaultOf d words.now in
    inr (inr (ms, is, known, subst P o f))
