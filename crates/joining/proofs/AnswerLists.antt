-- Lists of answers: none yet, one more, one that is there already; the rows that gave them, and that there are no more answers than rows.
use Prim.Native.Nat.{ℕ, ◌+◌, ◌≤◌, ◌<◌}
use native.Mathlib.Omega.{arith}
use native.Mathlib.Numerals.{add-one}
use mathlib.Core.Path.{◌≡◌, refl, sym, ◌∙◌}
use mathlib.Core.Bool.{true, false}
use mathlib.Core.Logic.{◌⊎◌, inl, inr, ⊎_elim, ◌↔◌}
use mathlib.Core.List.Memᴰ
use mathlib.Core.List.{List, [], ◌∷◌, ◌++◌, Memᴰ}
use lib.ListN.{length, take, set, length-set}
use lib.Seq.{take-suc-set, take-set-le}
use Rattle.terms.proofs.Masks.{has_decided}
use Rattle.program.specs.Limits.{masks, max_rows}
use Rattle.program.specs.Lists.{Distinct}
use Rattle.rows.specs.MaskSet.{InSet, Inserted}
use Rattle.program.proofs.OwnShape.{up_to, length_up_to, up_to_has}
use Rattle.table.proofs.Distinct.{distinct_length, distinct_append}
use Rattle.joining.specs.Answers.{Listing, Sources, Found}

-- distinct numbers below n are at most n
pub distinct_below : (l : List ℕ) (n : ℕ) → Distinct l → ((x : ℕ) → Memᴰ x l → x < n) → length l ≤ n
distinct_below l n d below = rw (length_up_to n) at (distinct_length l (up_to n) d (λ x m. up_to_has n x (below x m)))

-- nothing is added
pub found_none : {P : ℕ → Type 0} {seen answers : List ℕ} {count : ℕ} {answers₀ : List ℕ} → Listing seen answers count → take count answers ≡ take count answers₀
    → ((q : ℕ) → P q → ⊥) → Found P seen answers count count answers₀
found_none l e none =
    record { listing = l; more = omega arith; keeps = e; members = λ q. (λ m. inl (rw e at m), ⊎_elim (λ m. rw e m) (λ h. absurd (none q h))) }

-- what was found, by other names of the set, the list and the count
pub found_as : {P : ℕ → Type 0} {seen seen' answers answers' : List ℕ} {count r r' : ℕ} {answers₀ : List ℕ} → seen ≡ seen' → answers ≡ answers' → r ≡ r'
    → Found P seen' answers' count r' answers₀ → Found P seen answers count r answers₀
found_as s a e f = rw s (rw a (rw e f))

-- the same answers, said otherwise
pub found_for : {P Q : ℕ → Type 0} {seen answers : List ℕ} {count r : ℕ} {answers₀ : List ℕ} → ((q : ℕ) → P q ↔ Q q)
    → Found P seen answers count r answers₀ → Found Q seen answers count r answers₀
found_for same f =
    record {
      listing = f.listing;
      more = f.more;
      keeps = f.keeps;
      members = λ q. (λ m. ⊎_elim inl (λ h. inr ((same q).0 h)) ((f.members q).0 m), ⊎_elim (λ m. (f.members q).1 (inl m)) (λ h. (f.members q).1 (inr ((same q).1 h))));
    }

-- a place behind the answers is written
pub found_aside : {P : ℕ → Type 0} {seen answers : List ℕ} {count r : ℕ} {answers₀ : List ℕ} (i m : ℕ) → r ≤ i → Found P seen answers count r answers₀
    → Found P seen (set answers i m) count r answers₀
found_aside {answers = answers} {count = count} {r = r} i m l f =
    record {
      listing =
          record {
            set_size = f.listing.set_size;
            list_size = rw length-set f.listing.list_size;
            within = f.listing.within;
            small = rw front f.listing.small;
            same = rw front f.listing.same;
            distinct = rw front f.listing.distinct;
          };
      more = f.more;
      keeps = take-set-le count answers i m (omega (arith, f.more)) ∙ f.keeps;
      members = rw front f.members;
    }
  where
    front : take r (set answers i m) ≡ take r answers
    front = take-set-le r answers i m l

module _ {P : ℕ → Type 0} {seen answers : List ℕ} {count r : ℕ} {answers₀ : List ℕ} {m : ℕ} (f : Found P seen answers count r answers₀) (small : m < masks) where
  -- the answer is there already
  pub found_there : {seen' : List ℕ} → length seen' ≡ length seen → Inserted seen seen' m false → Found (λ q. P q ⊎ (q ≡ m)) seen' answers count r answers₀
  found_there size i =
      record {
        listing =
            record {
              set_size = size ∙ f.listing.set_size;
              list_size = f.listing.list_size;
              within = f.listing.within;
              small = f.listing.small;
              same = λ q l. (
                λ h. ⊎_elim (f.listing.same q l).0 (λ e. Memᴰ.cast e there) ((i.members q).0 h),
                λ h. (i.members q).1 (inl ((f.listing.same q l).1 h)),
              );
              distinct = f.listing.distinct;
            };
        more = f.more;
        keeps = f.keeps;
        members = λ q. (
          λ h. ⊎_elim inl (λ p. inr (inl p)) ((f.members q).0 h),
          ⊎_elim (λ h. (f.members q).1 (inl h)) (⊎_elim (λ p. (f.members q).1 (inr p)) (λ e. Memᴰ.cast e there)),
        );
      }
    where
      old : Dec (InSet seen m) → InSet seen m
      old (yes h) = h
      old (no n) = absurd (i.was_new.1 n)

      there : Memᴰ m (take r answers)
      there = (f.listing.same m small).0 (old (has_decided _ _))

  -- the answer is new
  pub found_new : {seen' : List ℕ} → length seen' ≡ length seen → r < max_rows → Inserted seen seen' m true → Found (λ q. P q ⊎ (q ≡ m)) seen' (set answers r m) count (r + 1) answers₀
  found_new size room i =
      record {
        listing =
            record {
              set_size = size ∙ f.listing.set_size;
              list_size = rw length-set f.listing.list_size;
              within = omega arith;
              small = λ q h. ⊎_elim (f.listing.small q) (λ e. rw e small) ((is q).0 h);
              same = λ q l. (
                λ h. (is q).1 (⊎_elim (λ b. inl ((f.listing.same q l).0 b)) inr ((i.members q).0 h)),
                λ h. (i.members q).1 (⊎_elim (λ b. inl ((f.listing.same q l).1 b)) inr ((is q).0 h)),
              );
              distinct =
                  rw behind (distinct_append (take r answers) (m ∷ []) f.listing.distinct (λ n. Memᴰ.not-nil n, tt)
                  (λ a h h'. i.was_new.0 tt ((f.listing.same m small).1 (Memᴰ.cast (sym (Memᴰ.eq_of_singleton h)) h'))));
            };
        more = omega (arith, f.more);
        keeps = take-set-le count answers r m f.more ∙ f.keeps;
        members = λ q. (
          λ h. ⊎_elim (λ b. ⊎_elim inl (λ p. inr (inl p)) ((f.members q).0 b)) (λ e. inr (inr e)) ((is q).0 h),
          ⊎_elim (λ h. (is q).1 (inl ((f.members q).1 (inl h)))) (⊎_elim (λ p. (is q).1 (inl ((f.members q).1 (inr p)))) (λ e. (is q).1 (inr e))),
        );
      }
    where
      behind : take (r + 1) (set answers r m) ≡ take r answers ++ (m ∷ [])
      behind = rw (add-one r) (take-suc-set answers r m (omega (arith, f.listing.list_size)))

      is : (q : ℕ) → Memᴰ q (take (r + 1) (set answers r m)) ↔ (Memᴰ q (take r answers) ⊎ (q ≡ m))
      is q = rw behind (
        λ h. ⊎_elim inl (λ o. inr (Memᴰ.eq_of_singleton o)) (Memᴰ.append_cases (take r answers) h),
        ⊎_elim (λ h. Memᴰ.append_left (m ∷ []) h) (λ e. Memᴰ.append_right (take r answers) (Memᴰ.head e)),
      )

pub sources_for : {F G : ℕ → Type 0} {rows count : ℕ} → ((x : ℕ) → x < rows → F x → G x) → Sources F rows count → Sources G rows count
sources_for wider s =
    record { sources = s.sources; distinct = s.distinct; as_many = s.as_many; below = λ x m. let b = s.below x m in (b.0, wider x b.0 b.1) }

-- no source yet, and one more
pub sources_none : {F : ℕ → Type 0} {rows : ℕ} → Sources F rows 0
sources_none = record { sources = []; distinct = tt; as_many = refl; below = λ x m. absurd (Memᴰ.not-nil m) }

pub sources_one : {F : ℕ → Type 0} {rows count n : ℕ} (y : ℕ) → y < rows → (F y → ⊥) → n ≡ count + 1 → Sources F rows count → Sources (λ x. F x ⊎ (x ≡ y)) rows n
sources_one y l new e s =
    record {
      sources = y ∷ s.sources;
      distinct = (λ m. new (s.below y m).1, s.distinct);
      as_many = omega (arith, s.as_many);
      below = λ x m. ⊎_elim (λ h. (rw h l, inr h)) (λ h. let b = s.below x h in (b.0, inl b.1)) (Memᴰ.cases_cons m);
    }

-- there are no more answers than rows
pub sources_few : {F : ℕ → Type 0} {rows count : ℕ} → Sources F rows count → count ≤ rows
sources_few {rows = rows} s = let l = distinct_below s.sources rows s.distinct (λ x m. (s.below x m).0) in omega (arith, s.as_many)
