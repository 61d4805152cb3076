-- The fields of a record, one after the other with a comma between two.
-- Assumes nothing.
use mathlib.Core.Path.{◌≡◌, refl, sym, ap, subst}
use mathlib.Core.List.{List, [], ◌∷◌, ◌++◌, append-nil}
use Prim.Native.Nat.{ℕ, zero, suc, ◌+◌, ◌-◌, ◌≤◌, ◌<◌}
use native.Mathlib.Omega.{arith}
use Rattle.ground.specs.Bytes.{bytes}
use Rattle.ground.specs.Lists.{joined}
use Rattle.lent.specs.Put.{Offers}
use Rattle.lent.proofs.Offers.{offers_none}
use Rattle.arena.specs.Node.{after_at}
use Rattle.arena.specs.Tree.{Trees, nil, cons, count}
use Rattle.tables.specs.Layout.{Lent, tables_of}
use Rattle.tables.specs.Sort.{Tables}
use Rattle.shapes.specs.Shows.{StandingAll}
use Rattle.shapes.proofs.Stood.{first_of, others-of}
use Rattle.values.specs.Value.{Values, v_nil, v_cons}
use Rattle.values.specs.Text.{text, texts}
use Rattle.values.specs.Normal.{normal, normals}
use Rattle.value_text.specs.Laid.{Lays}
use Rattle.value_text.specs.Value.{Given, Listed, l_nil, l_cons, comma, onward, WritesInside, WritesFields}
use Rattle.value_text.proofs.Lays.{lays_then, lays_put, lays_none}

pub comma-none : (i : ℕ) (a : List ℕ) (at : ℕ) → i ≡ 0 → Offers a a at (comma i) at
comma-none zero a at e = offers_none a at
comma-none (suc i) a at e = absurd (omega arith)

pub comma-some : (i : ℕ) → (i ≡ 0 → ⊥) → {a b : List ℕ} {at next : ℕ} → Offers a b at (bytes ",") next → Offers a b at (comma i) next
comma-some zero h f = absurd (h refl)
comma-some (suc i) h f = f

-- all parts from the first on are the parts joined
onward-more : (i : ℕ) (t : List ℕ) (ts : List (List ℕ)) → onward (suc i) (t ∷ ts) ≡ bytes "," ++ joined (bytes ",") (t ∷ ts)
unfolding onward joined
onward-more i t [] = ap (λ (s : List ℕ). 44 ∷ s) (append-nil t)
onward-more i t (u ∷ ts) = ap (λ (s : List ℕ). 44 ∷ (t ++ s)) (onward-more (suc i) u ts)

pub onward-joined : (ts : List (List ℕ)) → onward 0 ts ≡ joined (bytes ",") ts
unfolding onward joined
onward-joined [] = refl
onward-joined (t ∷ []) = append-nil t
onward-joined (t ∷ u ∷ ts) = ap (λ (s : List ℕ). t ++ s) (onward-more 0 u ts)

-- of the values, those from field i on are left; once they are written, all are
pub record Left (T : Tables) (allow : ℕ) (ws ts : List ℕ) (vs : Values) (entry : List ℕ) (place : ℕ) (out : List ℕ) (to node i many : ℕ) : Type 0 where
  pub others : Trees
  pub rest : Values
  pub there : StandingAll others ws ts node (many - i)
  pub reads : Listed T allow others rest
  pub onwards : (exit : List ℕ) (r : ℕ) → Lays (onward i (texts rest)) (onward i (texts (normals rest))) out exit to r → Lays (onward 0 (texts vs)) (onward 0 (texts (normals vs))) entry exit place r

module _ (sorts members names ws ts : List ℕ) (first many allow : ℕ) (entry : List ℕ) (place : ℕ) where
  abbrev pub LeftAt : List ℕ → ℕ → ℕ → ℕ → Type 0
  LeftAt out to node i =
      (l : Lent) → Given sorts members names l → (us : Trees) → StandingAll us ws ts first many → (vs : Values) → Listed (tables_of l) allow us vs →
      Left (tables_of l) allow ws ts vs entry place out to node i many

  pub left-start : LeftAt entry place first 0
  left-start l g us s vs h = record {
    others = us;
    rest = vs;
    there = subst (λ (n : ℕ). StandingAll us ws ts first n) (let e : many ≡ many - 0 = omega arith in e) s;
    reads = h;
    onwards = λ exit r f. f;
  }

  module _ (out : List ℕ) (to node i : ℕ) (h : LeftAt out to node i) where
    pub left_end : many ≤ i → WritesFields sorts members names ws ts first many allow entry out place to
    unfolding onward text normal
    left_end done l g us s vs q = go (h l g us s vs q) (h l g us s vs q).others (h l g us s vs q).rest refl refl (h l g us s vs q).reads
      where
        go : (w : Left (tables_of l) allow ws ts vs entry place out to node i many) (os : Trees) (rs : Values) → w.others ≡ os → w.rest ≡ rs → Listed (tables_of l) allow os rs → Lays (onward 0 (texts vs)) (onward 0 (texts (normals vs))) entry out place to
        go w nil v_nil o r l_nil =
            w.onwards out to (subst (λ (x : Values). Lays (onward i (texts x)) (onward i (texts (normals x))) out out to to) (sym r) (lays_none out to))
        go w (cons u os) (v_cons v rs) o r d = let c = w.there.many-are in let z = ap count o in absurd (omega arith)
        go w nil (v_cons v rs) o r d = elim d [ ]
        go w (cons u os) v_nil o r d = elim d [ ]

    module _ (more : i < many) (b c : List ℕ) (one next : ℕ) (f : Offers out b to (comma i) one) (d : WritesInside sorts members names ws ts node allow b c one next) (after : ℕ) (a : after ≡ after_at ws node) where
      pub left-next : LeftAt c next after (i + 1)
      unfolding onward text normal
      left-next l g us s vs q = go (h l g us s vs q) (h l g us s vs q).others (h l g us s vs q).rest refl refl (h l g us s vs q).reads
        where
          go : (w : Left (tables_of l) allow ws ts vs entry place out to node i many) (os : Trees) (rs : Values) → w.others ≡ os → w.rest ≡ rs → Listed (tables_of l) allow os rs → Left (tables_of l) allow ws ts vs entry place c next after (i + 1) many
          go w nil v_nil o r l_nil = let x = w.there.many-are in let z = ap count o in absurd (omega arith)
          go w (cons u os) (v_cons v rs) o r (l_cons expected k m row y tail) =
              let st : StandingAll (cons u os) ws ts node (many - i) = subst (λ (x : Trees). StandingAll x ws ts node (many - i)) o w.there in
              let fst = d l g u (first_of ws ts u os node (many - i) st) expected k m row y in
              let e : suc i ≡ i + 1 = omega arith in
              record {
                others = os;
                rest = rs;
                there = others-of ws ts u os node (many - i) st after (many - (i + 1)) a (omega arith);
                reads = tail;
                onwards = λ exit t p.
                    w.onwards exit t
                    (subst (λ (x : Values). Lays (onward i (texts x)) (onward i (texts (normals x))) out exit to t) (sym r)
                    (lays_then (lays_put f) (lays_then fst (subst (λ (n : ℕ). Lays (onward n (texts rs)) (onward n (texts (normals rs))) c exit next t) (sym e) p))));
              }
          go w nil (v_cons v rs) o r x6 = elim x6 [ ]
          go w (cons u os) v_nil o r x5 = elim x5 [ ]
