-- How the code's answers for parts of the words go together, as `next` and `several` put the definition's parts together.
use Prim.Native.Nat.{ℕ, suc}
use mathlib.Core.Path.{◌≡◌}
use mathlib.Core.List.{List, ◌∷◌}
use Rattle.std.specs.Prelude.{Result, Ok, Err}
use Rattle.program.specs.Reading.{Decoded, wrong, right, next, several}
use Rattle.program.specs.declared.reply.Fault.{Fault}
use Rattle.program.specs.declared.part.Place.{Place}
use Rattle.program.specs.Part.{Meets, Ends, left}

-- words that are the same meet the same
pub meets_same : {V A : Type 0} (Has : List ℕ → V → A → List ℕ → Type 0) (part : Result V Fault) (r : Decoded A) {words words' : List ℕ} → words ≡ words'
    → Meets words Has part r → Meets words' Has part r
meets_same Has part r e m = rw (← e) m

module _ (words : List ℕ) where
  -- a fault of the first part is the fault of the whole
  pub meets_fault : {V W A B : Type 0} (Has : List ℕ → V → A → List ℕ → Type 0) (Has' : List ℕ → W → B → List ℕ → Type 0) (e : Fault)
      (r : Decoded A) (f : A → List ℕ → Decoded B)
      → Meets words Has (Err e) r → Meets words Has' (Err e) (next r f)
  meets_fault Has Has' e (wrong number rest) f m = m
  meets_fault Has Has' e (right a rest) f m = absurd m

  -- past the first part, the answer is that for what follows it
  pub meets_next : {V W A B : Type 0} (Has : List ℕ → V → A → List ℕ → Type 0) (Has' : List ℕ → W → B → List ℕ → Type 0) (v : V) (part : Result W Fault)
      (r : Decoded A) (f : A → List ℕ → Decoded B)
      → Meets words Has (Ok v) r
      → ((a : A) (rest : List ℕ) → Has words v a rest → Meets words Has' part (f a rest))
      → Meets words Has' part (next r f)
  meets_next Has Has' v part (wrong number rest) f m g = absurd m
  meets_next Has Has' v part (right a rest) f m g = g a rest m

  -- what is made of a part changes neither its fault nor the place after it
  pub meets_map : {V A B : Type 0} (Has : List ℕ → V → A → List ℕ → Type 0) (Has' : List ℕ → V → B → List ℕ → Type 0) (part : Result V Fault)
      (r : Decoded A) (g : A → B)
      → ((v : V) (a : A) (rest : List ℕ) → Has words v a rest → Has' words v (g a) rest)
      → Meets words Has part r → Meets words Has' part (next r (λ a rest. right (g a) rest))
  meets_map Has Has' (Err e) (wrong number rest) g h m = m
  meets_map Has Has' (Err e) (right a rest) g h m = absurd m
  meets_map Has Has' (Ok v) (wrong number rest) g h m = absurd m
  meets_map Has Has' (Ok v) (right a rest) g h m = h v a rest m

  -- what follows from each part that the code's value may stand for
  pub meets_holds : {V A P : Type 0} (Has : List ℕ → V → A → List ℕ → Type 0) (v : V) (r : Decoded A)
      → ((a : A) (rest : List ℕ) → Has words v a rest → P)
      → Meets words Has (Ok v) r → P
  meets_holds Has v (wrong number rest) h m = absurd m
  meets_holds Has v (right a rest) h m = h a rest m

-- At a place on the way from another one so many parts are left: the answer for those is the answer for all.
abbrev pub Onward : {A : Type 0} → List ℕ → (List ℕ → Decoded A) → Place → ℕ → Place → ℕ → Type 0
Onward words part from count at n = (at.words.now ≡ words)
    × ((r : Result Place Fault) → Meets words Ends r (several part n (left at)) → Meets words Ends r (several part count (left from)))

module _ {V A : Type 0} (words : List ℕ) (Has : List ℕ → V → A → List ℕ → Type 0) (part : List ℕ → Decoded A) (from at : Place) (count n m : ℕ) (more : n ≡ suc m)
    (on : Onward words part from count at n) where
  pub onward_fault : (e : Fault) → Meets at.words.now Has (Err e) (part (left at)) → Meets words Ends (Err e) (several part count (left from))
  unfolding several
  onward_fault e h =
      on.1 (Err e)
      (rw more
      (meets_fault words Has Ends e (part (left at)) (λ a rest. next (several part m rest) (λ others rest'. right (a ∷ others) rest'))
      (meets_same Has (Err e) (part (left at)) on.0 h)))

  -- past one of the parts
  pub onward_next : (v : V) (after : Place) → ((a : A) (rest : List ℕ) → Has words v a rest → Ends words after a rest)
      → Meets at.words.now Has (Ok v) (part (left at)) → Onward words part from count after m
  unfolding several
  onward_next v after ends h =
      let same = meets_same Has (Ok v) (part (left at)) on.0 h in (
        meets_holds words Has v (part (left at)) (λ a rest has. (ends a rest has).0) same,
        λ r q. on.1 r
            (rw more
            (meets_next words Has Ends v r (part (left at)) (λ a rest. next (several part m rest) (λ others rest'. right (a ∷ others) rest')) same
            (λ a rest has. let here = (ends a rest has).1 in
            meets_map words Ends Ends r (several part m rest) (λ others. a ∷ others) (λ v' b rest' e. e) (rw here q)))),
      )
