-- The goal's words: its atom, its variable count, its modes, and the mask of these.
use Prim.Native.Nat.{ℕ, zero, suc, ◌+◌, ◌-◌, ◌*◌, ◌^◌, ◌≤◌, ◌<◌}
use native.Mathlib.Omega.{arith}
use native.Mathlib.Nat.{pow-le-pow_right}
use mathlib.Core.Path.{◌≡◌, ap, ◌∙◌}
use mathlib.Core.List.{List, [], ◌∷◌, reverse}
use lib.ListN.{length, get_or, set, take, drop, length-set, length-drop}
use lib.Seq.{drop-cons, take_all, get_or-set_same, get_or-set_other}
use Rattle.std.proofs.lemmas.List.{get_or-reverse}
use Rattle.terms.specs.Cells.{variables, enc}
use Rattle.program.specs.Shapes.{met}
use Rattle.program.specs.Faults.{mask_of}
use Rattle.program.specs.Within.{Each, more, after, modes_of}
use Rattle.program.proofs.Modes.{mask_below, mask_of_modes, modes_each, modes_length}
use Rattle.program.proofs.OwnShape.{length_up_to}
use Rattle.directory.specs.Layout.{goal_start, goal_cells, goal_ground, dir_words}
use Rattle.directory.specs.Walked.{GoalWritten}
use Rattle.directory.specs.From.{AtomFrom, GoalFrom}
use Rattle.directory.proofs.Cuts.{middle_part, cut_behind, word_within, word_at, word_behind}
use Rattle.directory.proofs.AtomsFrom.{atom_stands}
use Rattle.directory.proofs.ShapeVariables.{met_few, numbered_met}

each_drop : {P : ℕ → Type 0} (n : ℕ) (l : List ℕ) → Each P l → Each P (drop n l)
each_drop zero l e = e
each_drop (suc n) [] e = e
each_drop (suc n) (a ∷ l) (more p e) = each_drop n l e

each_at : {P : ℕ → Type 0} (l : List ℕ) (i d : ℕ) → Each P l → i < length l → P (get_or l i d)
each_at [] i d e h = absurd (omega arith)
each_at (a ∷ l) zero d (more p e) h = p
each_at (a ∷ l) (suc i) d (more p e) h = each_at l i d e (omega arith)

-- one mode more
pub mask_next : (modes : List ℕ) (i : ℕ) → 0 < i → i ≤ length modes → mask_of (drop (i - 1) modes) ≡ get_or modes (i - 1) 0 + 2 * mask_of (drop i modes)
mask_next modes i some most =
    let e : suc (i - 1) ≡ i = omega arith in
    ap mask_of (drop-cons modes (i - 1) 0 (omega arith)) ∙ ap (λ (n : ℕ). get_or modes (i - 1) 0 + 2 * mask_of (drop n modes)) e

-- room for the mask of one mode more
pub mask_fits : (modes : List ℕ) (i : ℕ) → 0 < i → Each (λ m. m ≤ 1) modes → length modes ≤ variables → 2 * mask_of (drop i modes) + 1 < 65536
mask_fits modes i some e few =
    let below = mask_below (drop i modes) (each_drop i modes e) in
    let short : length (drop i modes) ≤ 15 = omega (arith, length-drop i modes) in
    let most : 2 ^ length (drop i modes) ≤ 2 ^ 15 = pow-le-pow_right (omega arith) short in
    omega arith

-- the mode at a place from the last on
pub mode_fits : (modes : List ℕ) (k m : ℕ) → Each (λ m. m ≤ 1) modes → k < length modes → m ≡ get_or (reverse modes) k m → m ≤ 1
mode_fits modes k m e h q = rw (q ∙ get_or-reverse modes k m h) (each_at modes (length modes - 1 - k) m e (omega arith))

module _ (words : List ℕ) (at : ℕ) (predicates functions : List ℕ) (a : GoalFrom words at predicates functions) where
  abbrev pub goal_atom_from : AtomFrom words at predicates functions
  goal_atom_from = record { atom = a.goal; rest = after 0 a.goal ∷ modes_of (after 0 a.goal) a.grounded; cut = a.cut; sound = a.sound }

  -- "v is at most 15"
  pub modes_few : after 0 a.goal ≤ variables
  modes_few =
      let e : length (met [] a.goal) ≡ after 0 a.goal = ap length (numbered_met a.goal 0 a.numbered) ∙ length_up_to (after 0 a.goal) in
      let h = met_few predicates functions a.goal a.sound in
      omega arith

  module _ (cells : ℕ) (e : cells ≡ length (enc a.goal)) where
    count_cut : drop (at + cells) words ≡ after 0 a.goal ∷ modes_of (after 0 a.goal) a.grounded
    count_cut = rw e (cut_behind words at (enc a.goal) _ a.cut)

    pub count_within : at + cells < length words
    count_within = word_within words (at + cells) _ _ count_cut

    pub count_is : get_or words (at + cells) 0 ≡ after 0 a.goal
    count_is = word_at words (at + cells) _ _ count_cut

    modes_cut : drop (at + cells + 1) words ≡ modes_of (after 0 a.goal) a.grounded
    modes_cut = word_behind words (at + cells) _ _ count_cut

    pub modes_within : at + cells + 1 + get_or words (at + cells) 0 ≤ length words
    modes_within =
        let q = ap length modes_cut in
        let l = count_within in
        omega (arith, length-drop (at + cells + 1) words, modes_length (after 0 a.goal) a.grounded, count_is)

    module _ (count : ℕ) (q : count ≡ get_or words (at + cells) 0) where
      pub modes_are : take (at + cells + 1 + count - (at + cells + 1)) (drop (at + cells + 1) words) ≡ modes_of (after 0 a.goal) a.grounded
      modes_are =
          middle_part words (at + cells + 1) count ∙ ap (take count) modes_cut
          ∙ take_all count (modes_of (after 0 a.goal) a.grounded) (omega (arith, modes_length (after 0 a.goal) a.grounded, count_is))

      pub modes_sound : Each (λ m. m ≤ 1) (take (at + cells + 1 + count - (at + cells + 1)) (drop (at + cells + 1) words))
      modes_sound = rw modes_are (modes_each (after 0 a.goal) a.grounded)

      pub modes_length_few : length (take (at + cells + 1 + count - (at + cells + 1)) (drop (at + cells + 1) words)) ≤ variables
      modes_length_few = rw (modes_are, modes_length) modes_few

      module _ (before : List ℕ) (grounded : ℕ) (g : grounded ≡ mask_of (take (at + cells + 1 + count - (at + cells + 1)) (drop (at + cells + 1) words))) (whole : length before ≡ dir_words) where
        abbrev done : List ℕ
        done = set (set (set before goal_start at) goal_cells cells) goal_ground grounded

        pub goal_written : GoalWritten words a.goal a.grounded before done
        goal_written =
            record {
              stands =
                  rw (
                    get_or-set_other (set (set before goal_start at) goal_cells cells) goal_ground goal_start grounded 0 (λ z. omega arith),
                    get_or-set_other (set before goal_start at) goal_cells goal_start cells 0 (λ z. omega arith),
                    get_or-set_same before goal_start at 0 (omega arith),
                    get_or-set_other (set (set before goal_start at) goal_cells cells) goal_ground goal_cells grounded 0 (λ z. omega arith),
                    get_or-set_same (set before goal_start at) goal_cells cells 0 (rw length-set (omega arith)),
                    e,
                  )
                  (atom_stands words at predicates functions goal_atom_from);
              ground_is =
                  get_or-set_same (set (set before goal_start at) goal_cells cells) goal_ground grounded 0 (rw (length-set, length-set) (omega arith))
                  ∙ g ∙ ap mask_of modes_are ∙ mask_of_modes (after 0 a.goal) a.grounded a.marks;
              kept = λ x l.
                  get_or-set_other (set (set before goal_start at) goal_cells cells) goal_ground x grounded 0 (λ z. omega arith)
                  ∙ get_or-set_other (set before goal_start at) goal_cells x cells 0 (λ z. omega arith)
                  ∙ get_or-set_other before goal_start x at 0 (λ z. omega arith);
            }
