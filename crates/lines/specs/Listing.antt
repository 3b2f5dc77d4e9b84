-- 01's listing of the desk program. `proofs/Listing.antt` proves that it holds. Assumes nothing.
use Rattle.std.specs.Prelude.{ℕ, List, [], ◌∷◌}
use Rattle.examples.specs.Text.{loadable}

-- "Input:"
abbrev pub listing_input : List ℕ
listing_input = loadable ("+ 00 SLEW" ∷ "+ 01 SLEW" ∷ "+ 00 SLEWA" ∷ "? 01 SLEWA" ∷ "L 00" ∷ "+ 16 SLEW" ∷ "+ 00 slew" ∷ "x" ∷ [])

-- "Output, whole:"
abbrev pub listing_output : List ℕ
listing_output =
    loadable (
    "+ 00 SLEW 0 1"
    ∷ "+ 01 SLEW 0 1"
    ∷ "+ 00 SLEWA 0 1"
    ∷ "? 01 SLEWA 0 0"
    ∷ "L 00 0 2"
    ∷ "SLEW"
    ∷ "SLEWA"
    ∷ "+ 16 SLEW 2 0"
    ∷ "+ 00 slew 4 0"
    ∷ "! 8"
    ∷ []
    )
