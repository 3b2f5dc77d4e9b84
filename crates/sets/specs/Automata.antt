-- The automata of source document 002 (Mihov), Definitions 1 to 4, with a start for each of several lists. Cyclic ones are among them.
-- Assumes nothing.
use Rattle.std.specs.Prelude.{ℕ, ◌≤◌, ◌<◌, ◌≡◌, Bool, true, false, ◌&&◌, ◌||◌, List, [], ◌∷◌, eqb, length, get_or}
use Rattle.letters.specs.Words.{Word, Spelled}
use Rattle.sets.specs.Sets.{Words, member}

-- Definition 1: the states, the start of each list, the final states and the arcs. The function of arcs is partial: an arc, or a start, that
-- names no state is none.
pub record Automaton : Type 0 where
  pub states : List ℕ
  pub starts : List ℕ
  pub final : ℕ → Bool
  pub arc : ℕ → ℕ → ℕ

-- is the number in the list?
unfoldable pub among : ℕ → List ℕ → Bool
among s [] = false
among s (r ∷ rs) = eqb s r || among s rs

-- no number twice
abbrev pub Once : List ℕ → Type 0
Once [] = Unit {0}
Once (s ∷ ss) = (among s ss ≡ false) × Once ss

abbrev pub size : Automaton → ℕ
size A = length A.states

abbrev pub is_state : Automaton → ℕ → Bool
is_state A s = among s A.states

-- "The function μ is extended naturally" to words: where a word leads from a state
unfoldable pub end : Automaton → Word → ℕ → ℕ
end A [] s = s
end A (x ∷ w) s = end A w (A.arc s x)

-- and whether it leads anywhere: every number on the way is a state
unfoldable pub leads : Automaton → Word → ℕ → Bool
leads A [] s = is_state A s
leads A (x ∷ w) s = is_state A s && leads A w (A.arc s x)

-- Definition 2: a word is in the language of a state if it leads to a final state
abbrev pub in_language : Automaton → Word → ℕ → Bool
in_language A w s = leads A w s && A.final (end A w s)

-- the automaton has a start for each list, and the languages of its starts are the lists
pub record Languages (A : Automaton) (ls : List Words) : Type 0 where
  pub one_each : length A.starts ≡ length ls
  pub language : (m : ℕ) → m < length ls → (w : Word) → Spelled w → in_language A w (get_or A.starts m 0) ≡ member w (get_or ls m [])

-- Definition 2: "An automaton is called acyclic when" no word but the empty one leads from a state to itself
abbrev pub acyclic : Automaton → Type 0
acyclic A = (s x : ℕ) (w : Word) → Spelled (x ∷ w) → leads A (x ∷ w) s ≡ true → end A (x ∷ w) s ≡ s → ⊥

-- Definition 3: a state is reachable from another when some word leads from that to this
pub record reachable (A : Automaton) (t s : ℕ) : Type 0 where
  pub word : Word
  pub spelled : Spelled word
  pub defined : leads A word t ≡ true
  pub there : end A word t ≡ s

-- Definition 3: "Two states are called equivalent when" they have the same language
abbrev pub equivalent : Automaton → ℕ → ℕ → Type 0
equivalent A s t = (w : Word) → Spelled w → in_language A w s ≡ in_language A w t

-- Theorem 5, for several starts: "every state is reachable from the starting state, from every state a final state is reachable and there are
-- no different equivalent states"; and the automaton is acyclic
pub record Theorem5 (A : Automaton) : Type 0 where
  pub no_cycle : acyclic A
  pub reached : (s : ℕ) → is_state A s ≡ true → (m : ℕ) × (m < length A.starts) × reachable A (get_or A.starts m 0) s
  pub useful : (s : ℕ) → is_state A s ≡ true → (f : ℕ) × reachable A s f × (A.final f ≡ true)
  pub different : (s t : ℕ) → is_state A s ≡ true → is_state A t ≡ true → equivalent A s t → s ≡ t

-- Definition 4: the automaton is minimal with these languages. It lists each state once, and no automaton with the same languages has fewer.
pub record Minimal (A : Automaton) (ls : List Words) : Type 0 where
  pub once : Once A.states
  pub has : Languages A ls
  pub none_fewer : (B : Automaton) → Languages B ls → size A ≤ size B

-- n is the number of states of a minimal automaton with these languages
pub record Fewest (ls : List Words) (n : ℕ) : Type 0 where
  pub some : Automaton
  pub minimal : Minimal some ls
  pub counted : size some ≡ n
