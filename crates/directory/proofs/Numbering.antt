-- Variables numbered by first appearance, a cell at a time.
use Prim.Native.Nat.{ℕ, suc, ◌+◌, ◌-◌, ◌≤◌, ◌<◌}
use native.Mathlib.Numerals.{add-one}
use native.Mathlib.Omega.{arith}
use native.Mathlib.Decide.{ℕ_discrete}
use mathlib.Core.Path.{◌≡◌, refl, sym, ap, ◌∙◌}
use mathlib.Core.Logic.{◌⊎◌, inl, inr}
use mathlib.Core.List.Memᴰ
use mathlib.Core.List.{List, [], ◌∷◌, ◌++◌, Memᴰ}
use lib.ListN.{length, get_or, set, take, length-set, replicate, get_or-replicate, length-append}
use lib.Seq.{take-suc, get_or-set_same, get_or-set_other}
use borrow.Author.Tests.{lt-ltb, le-ltb}
use Rattle.terms.specs.Cells.{first_variable, variables}
use Rattle.program.specs.Shapes.{with}
use Rattle.program.proofs.OwnShape.{with_old, with_new, place_old, place_new}
use Rattle.directory.specs.Numbers.{met_cell, met_cells, Known, Numbered, renamed, number_in, Renumbered}

pub met_cells_last : (seen l : List ℕ) (c : ℕ) → met_cells seen (l ++ (c ∷ [])) ≡ met_cell (met_cells seen l) c
met_cells_last seen [] c = refl
met_cells_last seen (b ∷ l) c = met_cells_last (met_cell seen b) l c

-- the variables of one cell more
pub met_cells_next : (run : List ℕ) (i : ℕ) → i < length run → met_cells [] (take (i + 1) run) ≡ met_cell (met_cells [] (take i run)) (get_or run i 0)
met_cells_next run i h = rw (add-one i, take-suc run i 0 h) (met_cells_last [] (take i run) (get_or run i 0))

pub none_numbered : (table : List ℕ) → table ≡ replicate variables 0 → Numbered [] table 0
none_numbered table e =
    rw e (record { as_many = refl; count = refl; known = λ v h. inl ((λ m. elim m [ ]), get_or-replicate variables v 0 0 h) })

module _ (seen table : List ℕ) (n c : ℕ) (h : Numbered seen table n) where
  -- a function's cell has no variable
  pub function_numbered : c < first_variable → Numbered (met_cell seen c) table n
  function_numbered l = rw (lt-ltb c first_variable l) h

  module _ (l : first_variable ≤ c) (few : c < first_variable + variables) where
    abbrev v : ℕ
    v = c - first_variable

    -- a variable met before
    pub old_numbered : (get_or table v 0 ≡ 0 → ⊥) → Numbered (met_cell seen c) table n
    old_numbered ne = rw (le-ltb c first_variable l) (by (h.known v (omega arith)))
      where
        by : Known seen table v
            → Numbered (with ℕ_discrete seen v) table n
        by (inl q) = absurd (ne q.1)
        by (inr q) = rw (with_old ℕ_discrete seen v q.0) h

    -- a variable met first here
    pub new_numbered : get_or table v 0 ≡ 0 → Numbered (met_cell seen c) (set table v (n + 1)) (n + 1)
    new_numbered e = rw (le-ltb c first_variable l, with_new ℕ_discrete seen v missing)
        (record {
          as_many = rw (length-set table v (n + 1)) h.as_many;
          count = let k = h.count in omega (arith, length-append seen (v ∷ []));
          known = λ x less. by x less (ℕ_discrete x v) (h.known x less);
        })
      where
        missing : Memᴰ v seen → ⊥
        missing m = go (h.known v (omega arith))
          where
            go : Known seen table v → ⊥
            go (inl q) = q.0 m
            go (inr q) = omega (arith, q.1)

        not_last : (x : ℕ) → (x ≡ v → ⊥) → (Memᴰ x seen → ⊥) → Memᴰ x seen ⊎ Memᴰ x (v ∷ []) → ⊥
        not_last x ne nm (inl m) = nm m
        not_last x ne nm (inr m) = ne (Memᴰ.eq_of_singleton m)

        by : (x : ℕ) → x < variables → Dec (x ≡ v)
            → Known seen table x → Known (seen ++ (v ∷ [])) (set table v (n + 1)) x
        by x less (yes same) k =
            rw same
            (inr (
              Memᴰ.append_right seen (Memᴰ.head refl),
              get_or-set_same table v (n + 1) 0 (let q = h.as_many in omega arith)
                  ∙ add-one n ∙ ap suc (h.count ∙ sym (place_new ℕ_discrete seen [] v missing)),
            ))
        by x less (no other) (inl q) =
            inl ((λ m. not_last x other q.0 (Memᴰ.append_cases seen m)), get_or-set_other table v x (n + 1) 0 other ∙ q.1)
        by x less (no other) (inr q) =
            inr (Memᴰ.append_left (v ∷ []) q.0, get_or-set_other table v x (n + 1) 0 other ∙ q.1 ∙ ap suc (sym (place_old ℕ_discrete seen (v ∷ []) x q.0)))

-- nothing is renumbered yet
pub none_renumbered : (run table before : List ℕ) (to : ℕ) → Renumbered run table before before to 0
none_renumbered run table before to = record { size = refl; written = λ x l. absurd (omega arith); kept = λ x l. refl }

-- one cell more
pub one_renumbered : (run table before dir : List ℕ) (to i : ℕ) → Renumbered run table before dir to i → to + i < length dir
    → Renumbered run table before (set dir (to + i) (renamed (number_in table) (get_or run i 0))) to (i + 1)
one_renumbered run table before dir to i w room =
    record {
      size = length-set dir (to + i) (renamed (number_in table) (get_or run i 0)) ∙ w.size;
      written = λ x l. by x l (ℕ_discrete x i);
      kept = λ x l. get_or-set_other dir (to + i) x (renamed (number_in table) (get_or run i 0)) 0 (λ z. omega arith) ∙ w.kept x l;
    }
  where
    by : (x : ℕ) → x < i + 1 → Dec (x ≡ i) → get_or (set dir (to + i) (renamed (number_in table) (get_or run i 0))) (to + x) 0 ≡ renamed (number_in table) (get_or run x 0)
    by x l (yes same) = rw same (get_or-set_same dir (to + i) (renamed (number_in table) (get_or run i 0)) 0 room)
    by x l (no other) = get_or-set_other dir (to + i) (to + x) (renamed (number_in table) (get_or run i 0)) 0 (λ z. omega arith) ∙ w.written x (omega arith)
