-- The word with n words before it is written letter by letter, on the way down to the row where it ends: what is written, with the word that is
-- left at the row, is that word. Heights fall on the way, so the letters written and the height are no more than the longest name has.
-- Assumes nothing.
use Prim.Native.Nat.{ℕ, ◌+◌, ◌≤◌, ◌<◌}
use native.Mathlib.Omega.{arith}
use mathlib.Core.Path.{◌≡◌, refl, sym, ◌∙◌, ap}
use mathlib.Core.Bool.{true, ◌&&◌, and-eq-true_iff}
use mathlib.Core.List.{List, [], ◌∷◌, ◌++◌, append_assoc, append-nil}
use lib.Dec.{eqb}
use lib.ListN.{length, take, set, length-map}
use lib.Seq.{length-take-le}
use borrow.Author.Tests.{eqb-true}
use Rattle.letters.specs.Letters.{byte_of}
use Rattle.letters.specs.Words.{bytes_of}
use Rattle.letters.specs.Names.{longest}
use Rattle.model.specs.Lists.{nth_of}
use Rattle.model.specs.Call.{overlaid}
use Rattle.rows.specs.Table.{Table, height, target, ends}
use Rattle.rows.specs.Words.{words}
use Rattle.rows.specs.Tidy.{Used}
use Rattle.rows.proofs.Facts.{target-lower}
use Rattle.counting.proofs.Ahead.{nth_here, nth-words}
use Rattle.listing.specs.declared.word.Step.{Step}
use Rattle.listing.specs.Steps.{Listable, Leads}
use Rattle.printing.proofs.Buffers.{Front, front-none, front-more, take_more, front-overlaid}
use Rattle.listing.proofs.Steps.{row-used, target-listable}

-- the word is begun: i letters are written, and at the row the rest of the word has `left` words before it
pub record Begun (t : Table) (counts : List ℕ) (r n : ℕ) (before after : List ℕ) (row left i : ℕ) : Type 0 where
  pub listable : Listable t counts row
  pub under : left < length (words t row)
  pub room : i + height t row ≤ longest
  pub front : Front i before after
  pub written : take i after ++ bytes_of (nth_of left (words t row)) ≡ bytes_of (nth_of n (words t r))

pub begun-none : {t : Table} {counts : List ℕ} {r n : ℕ} (buffer : List ℕ) → Listable t counts r → n < length (words t r)
    → Begun t counts r n buffer buffer r n 0
begun-none {t} {counts} {r} {n} buffer l below =
    record {
      listable = l;
      under = below;
      room = omega (arith, l.counted.tidy.low r (row-used l below));
      front = front-none buffer;
      written = refl;
    }

module _ {t : Table} {counts : List ℕ} {r n : ℕ} {before after : List ℕ} {row left i : ℕ} (b : Begun t counts r n before after row left i) where
  used : Used t row
  used = row-used b.listable b.under

  module _ {step : Step} (on : Leads t row left step) where
    abbrev next : ℕ
    next = target t row step.letter

    pub next-lower : height t next < height t row
    next-lower =
        target-lower t b.listable.counted.tidy row step.letter used on.letter
        (row-used (target-listable b.listable b.under on.letter) on.under)

    pub inside : longest ≤ length before → i < length after
    inside fits = omega (arith, next-lower, b.front.long, b.room)

    pub begun_more : longest ≤ length before → Begun t counts r n before (set after i (byte_of step.letter)) next step.left (i + 1)
    begun_more fits =
        let word : nth_of left (words t row) ≡ step.letter ∷ nth_of step.left (words t next) =
        ap (λ k. nth_of k (words t row)) (sym on.before)
        ∙ nth-words t b.listable.counted.tidy row used step.letter on.letter step.left on.under in
        record {
          listable = target-listable b.listable b.under on.letter;
          under = on.under;
          room = omega (arith, next-lower, b.room);
          front = front-more (byte_of step.letter) b.front;
          written = rw (take_more i after (byte_of step.letter) (inside fits), append_assoc) (rw word at b.written);
        }

  -- a word that ends at the row is whole
  pub begun-whole : longest ≤ length before → (ends t row && eqb left 0) ≡ true
      → (i ≡ length (nth_of n (words t r))) × (after ≡ overlaid (bytes_of (nth_of n (words t r))) before)
  begun-whole fits e =
      let (here, zero) = (and-eq-true_iff (ends t row) (eqb left 0)).0 e in
      let last : nth_of left (words t row) ≡ [] =
      ap (λ k. nth_of k (words t row)) (eqb-true left 0 zero) ∙ nth_here t b.listable.counted.tidy row used here in
      let whole : take i after ≡ bytes_of (nth_of n (words t r)) = sym (append-nil (take i after)) ∙ rw last at b.written in
      let long : length (take i after) ≡ i = length-take-le i after (omega (arith, b.front.long, b.room)) in
      (sym long ∙ ap length whole ∙ length-map (nth_of n (words t r)) byte_of, front-overlaid b.front whole (rw (← whole) long))
