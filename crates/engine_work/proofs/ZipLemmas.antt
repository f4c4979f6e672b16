-- Lists that are related place by place.
use Rattle.std.specs.Prelude.{List, [], ◌∷◌}
use Rattle.std.specs.List.{AllZip}

-- what follows place by place follows for the lists
pub zip_then : {X Y Z : Type 0} (P : X → Y → Type 0) (Q : X → Z → Type 0) (xs : List X) (ys : List Y) (zs : List Z)
    → AllZip P xs ys → AllZip (λ y z. (x : X) → P x y → Q x z) ys zs → AllZip Q xs zs
zip_then P Q [] [] [] all then = all
zip_then P Q [] [] (z ∷ zs) all then = elim then [ ]
zip_then P Q [] (y ∷ ys) zs all then = elim all [ ]
zip_then P Q (x ∷ xs) [] zs all then = elim all [ ]
zip_then P Q (x ∷ xs) (y ∷ ys) [] all then = elim then [ ]
zip_then P Q (x ∷ xs) (y ∷ ys) (z ∷ zs) all then = (then.0 x all.0, zip_then P Q xs ys zs all.1 then.1)
