-- Rows with their rounds in the order of their words: two ascending lists of the same are one, one list behind another, and every list has an ascending one of the same rows.
use Prim.Native.Nat.{ℕ, suc, ◌<◌, ◌*◌}
use native.Mathlib.Omega.{arith}
use native.Mathlib.Decide.{ℕ_discrete, dec_lt}
use mathlib.Core.Path.{◌≡◌, refl, sym, ap, ◌∙◌}
use mathlib.Core.Logic.{◌⊎◌, inl, inr, ⊎_elim, ◌↔◌}
use mathlib.Core.List.Memᴰ
use mathlib.Core.List.{List, [], ◌∷◌, ◌++◌, append_assoc, Memᴰ}
use lib.ListN.{length, length-append}
use Rattle.table.specs.Analysis.{Dated, Before, dated_words, all_words, Ascends}
use Rattle.program.specs.Lists.{Distinct}

-- no list of words stands before one that stands before it, so none before itself
pub before_once : (vs ws : List ℕ) → Before vs ws → Before ws vs → ⊥
before_once (v ∷ vs) [] x5 _ = elim x5 [ ]
before_once [] ws x'' _ = elim x'' [ ]
before_once (v ∷ vs) (w ∷ ws) (inl l) (inl m) = omega arith
before_once (v ∷ vs) (w ∷ ws) (inl l) (inr (e, h)) = omega arith
before_once (v ∷ vs) (w ∷ ws) (inr (e, h)) (inl m) = omega arith
before_once (v ∷ vs) (w ∷ ws) (inr (e, h)) (inr (e', h')) = before_once vs ws h h'

pub before_trans : (us vs ws : List ℕ) → Before us vs → Before vs ws → Before us ws
before_trans (u ∷ us) (v ∷ vs) [] _ x9 = elim x9 [ ]
before_trans (u ∷ us) [] ws x5 _ = elim x5 [ ]
before_trans [] vs ws x'' _ = elim x'' [ ]
before_trans (u ∷ us) (v ∷ vs) (w ∷ ws) (inl a) (inl b) = inl (omega arith)
before_trans (u ∷ us) (v ∷ vs) (w ∷ ws) (inl a) (inr (e, b)) = inl (omega arith)
before_trans (u ∷ us) (v ∷ vs) (w ∷ ws) (inr (d, a)) (inl b) = inl (omega arith)
before_trans (u ∷ us) (v ∷ vs) (w ∷ ws) (inr (d, a)) (inr (e, b)) = inr (d ∙ e, before_trans us vs ws a b)

-- of two lists of words of one length, one stands before the other, or they are the same
pub data Order (vs ws : List ℕ) : Type 0 where
  before : Before vs ws → Order vs ws
  same : vs ≡ ws → Order vs ws
  after : Before ws vs → Order vs ws

unfoldable pub order : (vs ws : List ℕ) → length vs ≡ length ws → Order vs ws
unfolding ℕ_discrete dec_lt
order [] [] e = same refl
order [] (w ∷ ws) e = absurd (omega arith)
order (v ∷ vs) [] e = absurd (omega arith)
order (v ∷ vs) (w ∷ ws) e = at (ℕ_discrete v w) (dec_lt v w) (order vs ws (omega arith))
  where
    rest : v ≡ w → Order vs ws → Order (v ∷ vs) (w ∷ ws)
    rest d (before b) = before (inr (d, b))
    rest d (same s) = same (λ i. d i ∷ s i)
    rest d (after b) = after (inr (sym d, b))

    at : Dec (v ≡ w) → Dec (v < w) → Order vs ws → Order (v ∷ vs) (w ∷ ws)
    at (yes d) _ r = rest d r
    at (no n) (yes l) r = before (inl l)
    at (no n) (no g) r = after (inl (omega arith))

module _ {R : Type 0} (words : R → List ℕ) where
  -- an entry behind one that stands before it is not the same
  pub before_differs : (e f : Dated R) → Before (dated_words words e) (dated_words words f) → e ≡ f → ⊥
  before_differs e f b d = before_once (dated_words words f) (dated_words words f) (rw d at b) (rw d at b)

  -- two ascending lists of the same entries are the same
  pub ascends_same : (es fs : List (Dated R)) → Ascends words es → Ascends words fs
      → ((e : Dated R) → Memᴰ e es → Memᴰ e fs) → ((e : Dated R) → Memᴰ e fs → Memᴰ e es) → es ≡ fs
  ascends_same [] [] a b to from = refl
  ascends_same [] (f ∷ fs) a b to from = absurd (Memᴰ.not-nil (from f (Memᴰ.head refl)))
  ascends_same (e ∷ es) [] a b to from = absurd (Memᴰ.not-nil (to e (Memᴰ.head refl)))
  ascends_same (e ∷ es) (f ∷ fs) (a, as') (b, bs) to from =
      let same = first (Memᴰ.cases_cons (to e (Memᴰ.head refl))) (Memᴰ.cases_cons (from f (Memᴰ.head refl))) in
      rw (
        same,
        ascends_same es fs as' bs
            (λ g m. other fs g (λ d. before_differs e g (a g m) (same ∙ sym d)) (Memᴰ.cases_cons (to g (Memᴰ.tail m))))
            (λ g m. other es g (λ d. before_differs f g (b g m) (sym (d ∙ same))) (Memᴰ.cases_cons (from g (Memᴰ.tail m)))),
      )
    where
      first : (e ≡ f) ⊎ Memᴰ e fs → (f ≡ e) ⊎ Memᴰ f es → e ≡ f
      first (inl d) _ = d
      first (inr m) (inl d) = sym d
      first (inr m) (inr n) = absurd (before_once (dated_words words e) (dated_words words f) (a f n) (b e m))

      other : {h : Dated R} (l : List (Dated R)) (g : Dated R) → (g ≡ h → ⊥) → (g ≡ h) ⊎ Memᴰ g l → Memᴰ g l
      other l g ne (inl d) = absurd (ne d)
      other l g ne (inr m) = m

  pub ascends_distinct : (es : List (Dated R)) → Ascends words es → Distinct es
  ascends_distinct [] a = tt
  ascends_distinct (e ∷ es) (a, b) = (λ m. before_differs e e (a e m) refl, ascends_distinct es b)

  -- one ascending list behind another, every entry of which stands before every one of it
  pub ascends_append : (es fs : List (Dated R)) → Ascends words es → Ascends words fs
      → ((e f : Dated R) → Memᴰ e es → Memᴰ f fs → Before (dated_words words e) (dated_words words f)) → Ascends words (es ++ fs)
  ascends_append [] fs a b across = b
  ascends_append (e ∷ es) fs (ahead, a) b across = (
    λ f m. ⊎_elim (ahead f) (across e f (Memᴰ.head refl)) (Memᴰ.append_cases es m),
    ascends_append es fs a b (λ g f m. across g f (Memᴰ.tail m)),
  )

  pub all_words_append : (es fs : List (Dated R)) → all_words words (es ++ fs) ≡ all_words words es ++ all_words words fs
  all_words_append [] fs = refl
  all_words_append (e ∷ es) fs =
      ap (λ (ws : List ℕ). dated_words words e ++ ws) (all_words_append es fs) ∙ sym (append_assoc (dated_words words e) (all_words words es) (all_words words fs))

  -- an entry put in its place, once
  pub record Put (e : Dated R) (es es' : List (Dated R)) : Type 0 where
    pub ascending : Ascends words es'
    pub has : (f : Dated R) → Memᴰ f es' ↔ ((f ≡ e) ⊎ Memᴰ f es)

  -- before the first, at it, and behind it
  pub put_first : (e f : Dated R) (es : List (Dated R)) → Ascends words (f ∷ es) → Before (dated_words words e) (dated_words words f) → Put e (f ∷ es) (e ∷ f ∷ es)
  put_first e f es (ahead, a) b = record {
    ascending = (
      λ g m. ⊎_elim (λ (d : g ≡ f). rw d b)
          (λ (m' : Memᴰ g es). before_trans (dated_words words e) (dated_words words f) (dated_words words g) b (ahead g m')) (Memᴰ.cases_cons m),
      (ahead, a),
    );
    has = λ g. (Memᴰ.cases_cons, ⊎_elim Memᴰ.head Memᴰ.tail);
  }

  pub put_there : (e f : Dated R) (es : List (Dated R)) → Ascends words (f ∷ es) → e ≡ f → Put e (f ∷ es) (f ∷ es)
  put_there e f es a d = record { ascending = a; has = λ g. (inr, ⊎_elim (λ d'. Memᴰ.head (d' ∙ d)) (λ m. m)) }

  pub put_behind : (e f : Dated R) (es es' : List (Dated R)) → Ascends words (f ∷ es) → Before (dated_words words f) (dated_words words e) → Put e es es' → Put e (f ∷ es) (f ∷ es')
  put_behind e f es es' (ahead, a) b p = record { ascending = (λ g m. first g ((p.has g).0 m), p.ascending); has = λ g. (λ m. to g (Memᴰ.cases_cons m), from g) }
    where
      first : (g : Dated R) → (g ≡ e) ⊎ Memᴰ g es → Before (dated_words words f) (dated_words words g)
      first g (inl d) = rw d b
      first g (inr m) = ahead g m

      to : (g : Dated R) → (g ≡ f) ⊎ Memᴰ g es' → (g ≡ e) ⊎ Memᴰ g (f ∷ es)
      to g (inl d) = inr (Memᴰ.head d)
      to g (inr m) = ⊎_elim inl (λ m'. inr (Memᴰ.tail m')) ((p.has g).0 m)

      other : (g : Dated R) → (g ≡ f) ⊎ Memᴰ g es → Memᴰ g (f ∷ es')
      other g (inl d) = Memᴰ.head d
      other g (inr m) = Memᴰ.tail ((p.has g).1 (inr m))

      from : (g : Dated R) → (g ≡ e) ⊎ Memᴰ g (f ∷ es) → Memᴰ g (f ∷ es')
      from g (inl d) = Memᴰ.tail ((p.has g).1 (inl d))
      from g (inr m) = other g (Memᴰ.cases_cons m)

  -- all rows have the same number of words, and a row is read back from them
  module _ {size : ℕ} (sized : (row : R) → suc (length (words row)) ≡ size) (one_row : (r r' : R) → words r ≡ words r' → r ≡ r') where
    pub all_words_length : (es : List (Dated R)) → length (all_words words es) ≡ size * length es
    all_words_length [] = omega arith
    all_words_length (e ∷ es) = length-append (dated_words words e) (all_words words es) ∙ omega (arith, sized e.row, all_words_length es)

    pub one_entry : (e f : Dated R) → dated_words words e ≡ dated_words words f → e ≡ f
    one_entry e f h =
        let k : e.round ≡ f.round = cc in
        let w : words e.row ≡ words f.row = cc in
        let r = one_row e.row f.row w in
        λ i. record { round = k i; row = r i }

    unfoldable pub put : (e : Dated R) (es : List (Dated R)) → Ascends words es → (es' : List (Dated R)) × Put e es es'
    unfolding order
    put e [] a = (e ∷ [], record { ascending = (λ f m. absurd (Memᴰ.not-nil m), tt); has = λ f. (Memᴰ.cases_cons, ⊎_elim Memᴰ.head Memᴰ.tail) })
    put e (f ∷ es) a = at (order (dated_words words e) (dated_words words f) (sized e.row ∙ sym (sized f.row))) (put e es a.1)
      where
        at : Order (dated_words words e) (dated_words words f) → (es' : List (Dated R)) × Put e es es' → (es' : List (Dated R)) × Put e (f ∷ es) es'
        at (before b) _ = (e ∷ f ∷ es, put_first e f es a b)
        at (same s) _ = (f ∷ es, put_there e f es a (one_entry e f s))
        at (after b) (es', p) = (f ∷ es', put_behind e f es es' a b p)

    -- the entries of a list in ascending order
    pub record Sorted (es es' : List (Dated R)) : Type 0 where
      pub ascending : Ascends words es'
      pub has : (f : Dated R) → Memᴰ f es' ↔ Memᴰ f es

    unfoldable pub sort : (es : List (Dated R)) → (es' : List (Dated R)) × Sorted es es'
    unfolding put
    sort [] = ([], record { ascending = tt; has = λ f. (λ m. m, λ m. m) })
    sort (e ∷ es) = one (sort es)
      where
        one : (es' : List (Dated R)) × Sorted es es' → (es' : List (Dated R)) × Sorted (e ∷ es) es'
        one (es', s) =
            let (es'', p) = put e es' s.ascending in (
              es'',
              record {
                ascending = p.ascending;
                has = λ f. (
                  λ m. ⊎_elim Memᴰ.head (λ m'. Memᴰ.tail ((s.has f).0 m')) ((p.has f).0 m),
                  λ m. (p.has f).1 (⊎_elim inl (λ m'. inr ((s.has f).1 m')) (Memᴰ.cases_cons m)),
                );
              },
            )
