-- An algebra of what is added to the keys kept: nothing, one key, one step after another, and a step that finds the room full.
use Prim.Native.Nat.{ℕ}
use mathlib.Core.Path.{◌≡◌, refl, sym, ap, ◌∙◌}
use mathlib.Core.Logic.{◌⊎◌, inl, inr, ⊎_elim, ◌↔◌}
use mathlib.Core.List.Memᴰ
use mathlib.Core.List.{List, [], ◌∷◌, ◌++◌, append_assoc, append-nil, Memᴰ}
use Rattle.program.specs.Lists.{Distinct}
use Rattle.table.specs.Added.{Behind, Plus, Full}
use Rattle.table.proofs.Distinct.{distinct_append}

module _ (ks : List ℕ) (S : ℕ → Type 0) (ks' : List ℕ) where
  -- what was there is still there
  pub behind_keeps : Behind ks S ks' → (key : ℕ) → Memᴰ key ks → Memᴰ key ks'
  behind_keeps b key m = rw b.is (Memᴰ.append_left b.new m)

  -- what is there was there, or is new
  pub behind_has : (b : Behind ks S ks') (key : ℕ) → Memᴰ key ks' → Memᴰ key ks ⊎ Memᴰ key b.new
  behind_has b key m = Memᴰ.append_cases ks (rw b.is at m)

  pub behind_distinct : Distinct ks → Behind ks S ks' → Distinct ks'
  behind_distinct d b = rw b.is (distinct_append ks b.new d b.distinct b.apart)

-- the same list, and S of which nothing is new
pub behind_same : (ks : List ℕ) (S : ℕ → Type 0) → Behind ks S ks
behind_same ks S = record {
  new = [];
  is = sym (append-nil ks);
  of = λ key m. absurd (Memᴰ.not-nil m);
  distinct = tt;
  apart = λ key m. absurd (Memᴰ.not-nil m);
}

-- one key that was not there
pub behind_one : (ks : List ℕ) (key : ℕ) → (Memᴰ key ks → ⊥) → Behind ks (λ k. k ≡ key) (ks ++ key ∷ [])
behind_one ks key out = record {
  new = key ∷ [];
  is = refl;
  of = λ k m. Memᴰ.eq_of_singleton m;
  distinct = (Memᴰ.not-nil, tt);
  apart = λ k m m'. out (Memᴰ.cast (sym (Memᴰ.eq_of_singleton m)) m');
}

-- one step after another
pub behind_then : {ks ks' ks'' : List ℕ} {S S' : ℕ → Type 0} → Behind ks S ks' → Behind ks' S' ks'' → Behind ks (λ k. S k ⊎ S' k) ks''
behind_then {ks} {ks'} {ks''} {S} {S'} b c = record {
  new = b.new ++ c.new;
  is = c.is ∙ (ap (λ (l : List ℕ). l ++ c.new) b.is ∙ append_assoc ks b.new c.new);
  of = λ k m. ⊎_elim (λ (m' : Memᴰ k b.new). inl (b.of k m')) (λ (m' : Memᴰ k c.new). inr (c.of k m')) (Memᴰ.append_cases b.new m);
  distinct = distinct_append b.new c.new b.distinct c.distinct (λ k m m'. c.apart k m (rw b.is (Memᴰ.append_right ks m')));
  apart = λ k m m₀. ⊎_elim (λ (m' : Memᴰ k b.new). b.apart k m' m₀) (λ (m' : Memᴰ k c.new). c.apart k m' (behind_keeps ks S ks' b k m₀)) (Memᴰ.append_cases b.new m);
}

-- a larger set
pub behind_wider : {ks ks' : List ℕ} {S S' : ℕ → Type 0} → ((k : ℕ) → S k → S' k) → Behind ks S ks' → Behind ks S' ks'
behind_wider w b = record { new = b.new; is = b.is; of = λ k m. w k (b.of k m); distinct = b.distinct; apart = b.apart }

-- what is there after a step: what was there, and the set
pub plus_has : {ks ks' : List ℕ} {S : ℕ → Type 0} → Plus ks S ks' → (k : ℕ) → Memᴰ k ks' ↔ (Memᴰ k ks ⊎ S k)
plus_has {ks} {ks'} {S} a k = (
  λ m. ⊎_elim inl (λ (m' : Memᴰ k a.behind.new). inr (a.behind.of k m')) (behind_has ks S ks' a.behind k m),
  ⊎_elim (behind_keeps ks S ks' a.behind k) (a.all k),
)

pub plus_distinct : {ks ks' : List ℕ} {S : ℕ → Type 0} → Distinct ks → Plus ks S ks' → Distinct ks'
plus_distinct {ks} {ks'} {S} d a = behind_distinct ks S ks' d a.behind

-- the keys kept with the one left out are distinct, and more than the room
pub full_distinct : {ks ks' : List ℕ} {S : ℕ → Type 0} {room : ℕ} → Distinct ks → (f : Full ks S room ks') → Distinct (f.left ∷ ks')
full_distinct {ks} {ks'} {S} d f = (f.left_out, behind_distinct ks S ks' d f.behind)
