-- How the code's answers for atoms that follow one another go together.
use Prim.Native.Nat.{ℕ, suc}
use mathlib.Core.Path.{◌≡◌}
use mathlib.Core.List.{List, ◌∷◌}
use Rattle.std.specs.Prelude.{Result, Ok, Err}
use Rattle.program.specs.Reading.{right, next}
use Rattle.program.specs.Atoms.{atom, atoms}
use Rattle.program.specs.declared.reply.Fault.{Fault}
use Rattle.program.specs.declared.part.Place.{Place}
use Rattle.program.specs.Part.{Meets, Met, Ends, left}
use Rattle.program.proofs.Parts.{meets_same, meets_fault, meets_next, meets_map, meets_holds}

-- At a place on the way from another one so many atoms are left, with so many variables met: the answer for those is the answer for all.
abbrev pub OnwardAtoms : List ℕ → List ℕ → List ℕ → Place → ℕ → ℕ → Place → ℕ → ℕ → Type 0
OnwardAtoms words predicates functions from count seen at n known = (at.words.now ≡ words)
    × ((r : Result Place Fault) → Meets words Ends r (atoms predicates functions n known (left at)) → Meets words Ends r (atoms predicates functions count seen (left from)))

module _ (words predicates functions : List ℕ) (from : Place) (count seen : ℕ) (at : Place) (n m known : ℕ) (more : n ≡ suc m)
    (on : OnwardAtoms words predicates functions from count seen at n known) where
  pub atoms_fault : (e : Fault) → Meets at.words.now Met (Err e) (atom predicates functions known (left at))
      → Meets words Ends (Err e) (atoms predicates functions count seen (left from))
  unfolding atoms
  atoms_fault e h =
      on.1 (Err e)
      (rw more
      (meets_fault words Met Ends e (atom predicates functions known (left at))
      (λ a rest. next (atoms predicates functions m a.1 rest) (λ r rest'. right (a.0 ∷ r.0, r.1) rest'))
      (meets_same Met (Err e) (atom predicates functions known (left at)) on.0 h)))

  -- past an atom
  pub atoms_next : (now : ℕ) (after : Place) → Meets at.words.now Met (Ok (now, after)) (atom predicates functions known (left at))
      → OnwardAtoms words predicates functions from count seen after m now
  unfolding atoms
  atoms_next now after h =
      let same = meets_same Met (Ok (now, after)) (atom predicates functions known (left at)) on.0 h in (
        meets_holds words Met (now, after) (atom predicates functions known (left at)) (λ a rest has. has.1.0) same,
        λ r q. on.1 r
            (rw more
            (meets_next words Met Ends (now, after) r (atom predicates functions known (left at))
            (λ a rest. next (atoms predicates functions m a.1 rest) (λ x rest'. right (a.0 ∷ x.0, x.1) rest')) same
            (λ a rest has. meets_map words Ends Ends r (atoms predicates functions m a.1 rest) (λ x. (a.0 ∷ x.0, x.1)) (λ v b rest' e. e) (rw (has.1.1, ← has.0) q)))),
      )
