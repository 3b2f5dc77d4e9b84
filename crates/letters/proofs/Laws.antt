-- What is known of letters and their bytes, and all that is: what is proved by these laws holds for any letters that keep them. Beside the
-- proofs of `letter_of` and `byte_of`, `Ranges.antt` and `NameBytes.antt`, nothing else looks into `letter` and `byte_of`. Assumes nothing.
use Prim.Native.Nat.{ℕ, ◌≤◌, ◌<◌}
use mathlib.Core.Path.{◌≡◌, refl}
use mathlib.Core.Logic.{inl, inr}
use native.Mathlib.Omega.{arith}
use borrow.Author.Tests.{leb-true, eqb-true}
use lib.Dec.{leb, eqb}
use Rattle.letters.specs.Below.{all_below}
use Rattle.letters.specs.Letters.{letters, line_end, letter, byte_of}
use Rattle.letters.proofs.Below.{all-below}
use Rattle.letters.proofs.Ranges.{each-byte}

pub letter-le : (b : ℕ) → letter b ≤ letters
unfolding letter all_below
letter-le b = elim (each-byte (λ b. leb (letter b) letters) refl b) [ inl e ↦ leb-true _ _ e | inr none ↦ omega (arith, none) ]

-- one test that computes, over all letters
pub letter-byte_of : (x : ℕ) → x < letters → letter (byte_of x) ≡ x
unfolding letter byte_of all_below
letter-byte_of x h = eqb-true _ _ (all-below (λ x. eqb (letter (byte_of x)) x) letters refl x h)

pub letter-line_end : letter line_end ≡ letters
unfolding letter
letter-line_end = refl
