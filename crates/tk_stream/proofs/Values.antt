-- Members and items of a value, as the definitions see them.
use Rattle.std.proofs.Common.{◌≡◌, List, [], ◌∷◌, refl, ap}
use Rattle.serde_json.specs.Data.{Data}
use Rattle.serde_json.specs.View.{items_of}
use Rattle.tk_stream.specs.Reading.{values_of}

pub values_of-items_of : (ds : List Data) → values_of (items_of ds) ≡ ds
values_of-items_of [] = refl
values_of-items_of (d ∷ ds) = ap (λ xs. d ∷ xs) (values_of-items_of ds)
