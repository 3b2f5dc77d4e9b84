-- A row comes into the chain of its bucket. What stands at a place of the array is the last row of a bucket below some row, and it is still so at all
-- places but three, since only the new row r came into bucket b, and only it was a free one. Assumes nothing.
use Prim.Native.Nat.{ℕ, ◌+◌, ◌≤◌, ◌<◌}
use mathlib.Core.Path.{◌≡◌, refl, sym, ◌∙◌}
use mathlib.Core.Logic.{◌⊎◌, inl, inr}
use mathlib.Core.List.{List}
use native.Mathlib.Decide.{ℕ_discrete}
use native.Mathlib.Nat.{add_left_cancel}
use native.Mathlib.Omega.{arith}
use borrow.Author.Tests.{eq-eqb, ne_eqb}
use lib.ListN.{length, get_or, set, length-set}
use lib.Seq.{get_or-set_same, get_or-set_other}
use Rattle.letters.specs.Letters.{letters}
use Rattle.rows.specs.Table.{Table, most_rows}
use Rattle.rows.proofs.Skipping.{lower-or-not}
use Rattle.chains.specs.Chains.{Latest, Chained}
use Rattle.index.specs.Buckets.{row_key, bucket, buckets}
use Rattle.index.specs.Index.{key_place, arcs_place, index_length, Indexed, LinkBehind, LinkAbove, Gaps, SomeChains, entered, Entering}
use Rattle.index.proofs.Buckets.{bucket-used, bucket-small}

-- v stands at a place of the chain of bucket b: it is the last row of the bucket before top
record Standing (of : ℕ → ℕ) (n b r place v : ℕ) : Type 0 where
  top : ℕ
  most : top ≤ n
  above : r < n → r < top
  positive : 0 < b → 0 < place
  low : place < buckets + most_rows
  latest : Latest of b top v

standing : {of : ℕ → ℕ} {n b r place : ℕ} {index : List ℕ} → Chained buckets of n index → b < buckets
    → (place ≡ b) ⊎ LinkBehind of n b r place → Standing of n b r place (get_or index place 0)
standing {n} {b} {index} c small at =
    elim at [
      | inl head ↦
          record {
            top = n;
            most = omega arith;
            above = λ h. h;
            positive = λ h. omega arith;
            low = omega arith;
            latest = rw head (c.lasts b small);
          }
      | inr inner ↦
          record {
            top = inner.top;
            most = omega (arith, inner.inside);
            above = λ h. inner.above;
            positive = λ h. omega (arith, inner.at);
            low = omega (arith, inner.at, inner.inside, c.most);
            latest = rw (inner.at, sym inner.kind) (c.links inner.top (omega (arith, inner.above)) inner.inside);
          }
    ]

-- the search for the gap: it goes from a place to that of the row that stands there
module _ {index : List ℕ} {b r place : ℕ} (small : b < buckets) (above : LinkAbove index b r place) where
  pub above-inside : SomeChains index → place < length index
  above-inside (of, n, c) = omega (arith, (standing c small (above of n c)).low, c.long)

  pub above-falls : SomeChains index → r < get_or index place 0 → get_or index (buckets + get_or index place 0) 0 < get_or index place 0
  above-falls (of, n, c) h =
      let s = standing c small (above of n c) in
      (c.links (get_or index place 0) (omega arith) (omega (arith, s.latest.below, s.most))).below

  pub above-next : r < get_or index place 0 → LinkAbove index b r (buckets + get_or index place 0)
  above-next h of n c =
      let s = standing c small (above of n c) in
      inr (
      record {
        top = get_or index place 0;
        at = refl;
        above = h;
        inside = omega (arith, s.latest.below, s.most);
        kind = s.latest.there (omega arith);
      })

-- what the array says after row r came in at the place
record Cells (index : List ℕ) (place r key : ℕ) : Type 0 where
  first : get_or (entered index place r key) 0 0 ≡ get_or index (buckets + r) 0
  next : get_or (entered index place r key) (buckets + r) 0 ≡ get_or index place 0
  here : get_or (entered index place r key) place 0 ≡ r
  other : (i : ℕ) → i < buckets + most_rows → (i ≡ 0 → ⊥) → (i ≡ buckets + r → ⊥) → (i ≡ place → ⊥)
      → get_or (entered index place r key) i 0 ≡ get_or index i 0
  keyed : get_or (entered index place r key) (key_place r) 0 ≡ key
  keys : (q : ℕ) → (q ≡ r → ⊥) → get_or (entered index place r key) (key_place q) 0 ≡ get_or index (key_place q) 0
  arcs : (s : ℕ) → get_or (entered index place r key) (arcs_place s) 0 ≡ get_or index (arcs_place s) 0

key-far : (q i : ℕ) → i < buckets + most_rows → i ≡ key_place q → ⊥
key-far q i h e = omega arith

entered-cells : {of : ℕ → ℕ} {n b r place : ℕ} {index : List ℕ} (key : ℕ) → length index ≡ index_length → Chained buckets of n index → r < n
    → 0 < b → b < buckets → (place ≡ b) ⊎ LinkBehind of n b r place → Cells index place r key
entered-cells {r} {place} {index} key long c inside some small at =
    let one = set index 0 (get_or index (buckets + r) 0) in
    let two = set one (buckets + r) (get_or index place 0) in
    let three = set two place r in
    let next : buckets + r < buckets + most_rows = omega (arith, c.most) in
    let here = (standing c small at).low in
    let set_first = get_or-set_same index 0 (get_or index (buckets + r) 0) 0 (omega arith) in
    let set_next = get_or-set_same one (buckets + r) (get_or index place 0) 0 (simp length-set (omega arith)) in
    let set_here = get_or-set_same two place r 0 (simp length-set (omega arith)) in
    let set_key = get_or-set_same three (key_place r) key 0 (simp length-set (omega arith)) in
    let first_key = key-far r 0 (omega arith) in
    let next-key = key-far r (buckets + r) next in
    let here-key = key-far r place here in
    let first_next : 0 ≡ buckets + r → ⊥ = λ e. omega arith in
    let first-here : 0 ≡ place → ⊥ = λ e. omega (arith, (standing c small at).positive some) in
    let next_here : buckets + r ≡ place → ⊥ =
    λ e. elim at [ inl head ↦ omega arith | inr inner ↦ omega (arith, inner.at, inner.above) ] in
    record {
      first = simp get_or-set_other set_first;
      next = simp get_or-set_other set_next;
      here = simp get_or-set_other set_here;
      other = λ i h not_first not-next not-here. let not_key = key-far r i h in simp get_or-set_other;
      keyed = set_key;
      keys = λ q d.
          let key-first : key_place q ≡ 0 → ⊥ = λ e. key-far q 0 (omega arith) (sym e) in
          let key-next : key_place q ≡ buckets + r → ⊥ = λ e. key-far q (buckets + r) next (sym e) in
          let key_here : key_place q ≡ place → ⊥ = λ e. key-far q place here (sym e) in
          let keys : key_place q ≡ key_place r → ⊥ = λ e. d (add_left_cancel (buckets + most_rows) e) in
          simp get_or-set_other;
      arcs = λ s.
          let arcs-first : arcs_place s ≡ 0 → ⊥ = λ e. omega arith in
          let arcs-next : arcs_place s ≡ buckets + r → ⊥ = λ e. omega arith in
          let arcs-here : arcs_place s ≡ place → ⊥ = λ e. omega arith in
          let arcs-key : arcs_place s ≡ key_place r → ⊥ = λ e. omega arith in
          simp get_or-set_other;
    }

-- row r was of kind 0 and is of kind b now; the other rows are of the kinds that they were of
module _ {of by : ℕ → ℕ} {r b : ℕ} (free : of r ≡ 0) (taken : by r ≡ b) (some : 0 < b) (same : (q : ℕ) → (q ≡ r → ⊥) → of q ≡ by q) where
  latest-kept : {kind n v : ℕ} → Latest of kind n v → (v ≡ r → ⊥) → (kind ≡ b → v < r → r < n → ⊥) → Latest by kind n v
  latest-kept {v} l other apart =
      record {
        below = l.below;
        there = λ h. sym (same v other) ∙ l.there h;
        none = λ q above inside e.
            elim (ℕ_discrete q r) [
              | yes d ↦ apart (sym e ∙ rw d taken) (rw d at above) (rw d at inside)
              | no d ↦ l.none q above inside (same q d ∙ e)
            ];
      }

  -- the last free row is the one before r
  latest-freed : {n v : ℕ} → Latest of 0 n r → Latest of 0 r v → Latest by 0 n v
  latest-freed {v} l before =
      record {
        below = omega (arith, l.below, before.below);
        there = λ h. sym (same v (λ d. omega (arith, before.below))) ∙ before.there h;
        none = λ q above inside e.
            elim (ℕ_discrete q r) [
              | yes d ↦ omega (arith, rw d at e)
              | no d ↦
                  let was = same q d ∙ e in
                  elim (lower-or-not q r) [ inl low ↦ before.none q above low was | inr up ↦ l.none q (omega arith) inside was ]
            ];
      }

  -- in the chain of b r is the one before top, and what was it is the one before r
  module _ {top v : ℕ} (l : Latest of b top v) (low : v < r) (above : r < top) where
    latest-entered : Latest by b top r
    latest-entered =
        record {
          below = above;
          there = λ h. taken;
          none = λ q up inside e. l.none q (omega arith) inside (same q (λ d. omega arith) ∙ e);
        }

    latest-next : Latest by b r v
    latest-next =
        record {
          below = low;
          there = λ h. sym (same v (λ d. omega arith)) ∙ l.there h;
          none = λ q up inside e. l.none q up (omega arith) (same q (λ d. omega arith) ∙ e);
        }

  -- r was the last of kind 0, and comes at the place into the chain of b
  module _ {n place key : ℕ} {index : List ℕ} (c : Chained buckets of n index) (first : get_or index 0 0 ≡ r) (positive : 0 < r) (inside : r < n)
      (small : b < buckets) (at : (place ≡ b) ⊎ LinkBehind of n b r place) (before : get_or index place 0 ≤ r) (cell : Cells index place r key) where
    last-free : Latest of 0 n r
    last-free = rw first at (c.lasts 0 (omega arith))

    -- what stands at the place is not r, which is of another kind
    low : get_or index place 0 < r
    low =
        elim (ℕ_discrete (get_or index place 0) r) [
          | yes d ↦ absurd (omega (arith, rw d at ((standing c small at).latest.there (omega arith))))
          | no d ↦ omega arith
        ]

    here-last : (kind : ℕ) → kind < buckets → kind ≡ place → Latest by kind n r
    here-last kind h e =
        elim at [
          | inl head ↦ rw (e ∙ head) (latest-entered (c.lasts b small) (rw head at low) inside)
          | inr inner ↦ absurd (omega (arith, inner.at))
        ]

    other_last : (kind : ℕ) → kind < buckets → (kind ≡ 0 → ⊥) → (kind ≡ place → ⊥) → Latest by kind n (get_or index kind 0)
    other_last kind h d apart =
        let l = c.lasts kind h in
        latest-kept l (λ e. d (sym (l.there (rw e positive)) ∙ rw e free))
        (λ e low up.
        elim at [
          | inl head ↦ apart (e ∙ sym head)
          | inr inner ↦ l.none inner.top (omega (arith, inner.above)) inner.inside (inner.kind ∙ sym e)
        ])

    here-link : (q : ℕ) → 0 < q → q < n → (q ≡ r → ⊥) → buckets + q ≡ place → Latest by (by q) q r
    here-link q some h d e =
        elim at [
          | inl head ↦ absurd (omega arith)
          | inr inner ↦
              let top : inner.top ≡ q = omega (arith, inner.at) in
              let kind : of q ≡ b = rw top at inner.kind in
              rw (sym (same q d) ∙ kind)
              (latest-entered (rw kind at (c.links q some h)) (rw (sym e) at low) (rw top at inner.above))
        ]

    other-link : (q : ℕ) → 0 < q → q < n → (q ≡ r → ⊥) → (buckets + q ≡ place → ⊥) → Latest by (by q) q (get_or index (buckets + q) 0)
    other-link q some h d apart =
        let l = c.links q some h in
        rw (sym (same q d)) (
        latest-kept l (λ e. last-free.none q (omega (arith, l.below)) h (sym (l.there (rw e positive)) ∙ rw e free))
        (λ e low up.
        elim at [
          | inl head ↦ (c.lasts b small).none q (omega (arith, rw head at before)) h e
          | inr inner ↦
              elim (lower-or-not q inner.top) [
                | inl under ↦
                    (c.links inner.top (omega arith) inner.inside).none q (omega (arith, rw inner.at at before)) under
                    (e ∙ sym inner.kind)
                | inr over ↦
                    l.none inner.top (omega (arith, inner.above)) (omega (arith, inner.at)) (inner.kind ∙ sym e)
              ]
        ]))

    entered-chained : Chained buckets by n (entered index place r key)
    entered-chained =
        let s = standing c small at in
        let most = c.most in
        record {
          long = simp length-set c.long;
          most = most;
          lasts = λ kind h.
              elim (ℕ_discrete kind 0) [
                | yes d ↦ rw (d, cell.first) (latest-freed last-free (rw free at (c.links r positive inside)))
                | no d ↦ elim (ℕ_discrete kind place) [
                  | yes e ↦ rw (e, cell.here) (rw e at (here-last kind h e))
                  | no e ↦ rw (cell.other kind (omega arith) d (λ z. omega arith) e) (other_last kind h d e)
                ]
              ];
          links = λ q some h.
              elim (ℕ_discrete q r) [
                | yes d ↦ rw (d, cell.next, taken) (latest-next s.latest low (s.above inside))
                | no d ↦ elim (ℕ_discrete (buckets + q) place) [
                  | yes e ↦ rw (e, cell.here) (here-link q some h d e)
                  | no e ↦ rw (cell.other (buckets + q) (omega arith) (λ z. omega arith) (λ z. omega arith) e) (other-link q some h d e)
                ]
              ];
        }

-- what stands at the place may be read after the first store
pub stored-entered : (index : List ℕ) (place r : ℕ) {key : ℕ} (k : ℕ) → 0 < place → key ≡ k →
    let one = set index 0 (get_or index (buckets + r) 0) in
    set (set (set one (buckets + r) (get_or one place 0)) place r) (key_place r) key ≡ entered index place r k
stored-entered index place r k some e = rw (get_or-set_other index 0 place (get_or index (buckets + r) 0) 0 (λ d. omega arith), e)

-- row r is written and its arcs are counted, and the place is that where it comes into the chain of its bucket
module _ {t : Table} {r place : ℕ} {index : List ℕ} (entering : Entering t r letters index) (gap : Gaps index (bucket t r) r place) where
  some-bucket : 0 < bucket t r
  some-bucket = rw (bucket-used entering.used) (omega arith)

  pub gap-place : (0 < place) × (place < buckets + most_rows)
  gap-place =
      let s = standing entering.chained (bucket-small t r) (gap.1 _ _ entering.chained) in
      (s.positive some-bucket, s.low)

  pub entered-indexed : Indexed t (entered index place r (row_key t r))
  entered-indexed =
      let (before, above) = gap in
      let u = entering.used in
      let c = entering.chained in
      let at = above _ _ c in
      let small = bucket-small t r in
      let cell = entered-cells (row_key t r) entering.long c u.inside some-bucket small at in
      record {
        keys =
            record {
              long = simp length-set entering.long;
              at = λ q h used.
                  elim (ℕ_discrete q r) [
                    | yes d ↦ rw d cell.keyed
                    | no d ↦ rw (cell.keys q d) (entering.keys q used d)
                  ];
            };
        chained =
            entered-chained (rw (eq-eqb r r refl)) refl some-bucket (λ q d. rw (ne_eqb q r d)) c entering.first u.positive u.inside
            small at before cell;
        arcs = λ s some h. omega (arith, cell.arcs s, entering.arcs s some h);
      }
