-- Arms by repetition: what is left of a body, and the arms before it.
-- Assumes nothing.
use Rattle.std.proofs.Common.{None, Some, Err, Ok, Option, Result}
use mathlib.Core.Path.{◌≡◌, refl, sym, ap, ◌∙◌}
use mathlib.Core.Bool.{Bool, true, false}
use mathlib.Core.List.{List, [], ◌∷◌, ◌++◌, append_assoc, append-nil}
use Prim.Native.Nat.{ℕ, min, ◌+◌, ◌≤◌}
use native.Mathlib.Omega.{arith}
use lib.Dec.{eqb}
use lib.ListN.{length, length-append}
use Rattle.refusals.specs.declared.Refusal.{Refusal}
use Rattle.refusals.specs.declared.Refusal.TheVariants.{UnmatchedType, UnexpectedForm}
use Rattle.arena.specs.Tree.{Tree}
use Rattle.tables.specs.Layout.{Lent, tables_of}
use Rattle.tables.specs.Sort.{Tables}
use Rattle.shapes.specs.Shows.{Standing, Reads}
use Rattle.sorts.specs.Result.{◌>>=◌, unless, found}
use Rattle.sorts.specs.Sort.{levels}
use Rattle.values.specs.Text.{text}
use Rattle.means.specs.Literal.{Lit, read}
use Rattle.literals.specs.Answer.{capped}
use Rattle.literals.specs.Plan.{Given, DecodesAt}
use Rattle.commands.specs.Command.{Chain, arm, chain, key}
use Rattle.commands.specs.LinkShows.{LinkShows, LinkAt}
use Rattle.commands.proofs.Links.{standing-within, shown-link}
use Rattle.model.specs.Model.{Arm, arm_of, Table, table_of, push, read_chain}
use Rattle.model.specs.Listing.{line, arm_lines}
use Rattle.model.proofs.Lengths.{length-line}
use Rattle.definitions.specs.Measure.{value_size, arm_size, table_size, measured, read_arm, closed_as, ValueOf, ArmAt, ChainAt}
use Rattle.commands.specs.declared.chain.Link.{Link}
use Rattle.literals.specs.declared.answer.Literal.{Literal}

-- an arm is read before what follows it
pulled : (o : Result Tree Refusal) (f : Tree → Result Lit Refusal) (g : Result Lit Refusal) (p q : Lit → Bool) (next : Result Table Refusal) →
    (o >>= λ k. f k >>= λ m. g >>= λ l. unless (p m) UnmatchedType (unless (q l) UnmatchedType (next >>= λ t. Ok (push (arm_of m.value l.value) t))))
    ≡ ((o >>= λ k. f k >>= λ m. g >>= λ l. unless (p m) UnmatchedType (unless (q l) UnmatchedType (Ok (arm_of m.value l.value)))) >>= λ a. next >>= λ t. Ok (push a t))
unfolding ◌>>=◌ unless
pulled (Err r) f g p q next = refl
pulled (Ok k) f g p q next = first (f k)
  where
    third : (m l : Lit) (b c : Bool) → unless b UnmatchedType (unless c UnmatchedType (next >>= λ t. Ok (push (arm_of m.value l.value) t))) ≡ ((unless b UnmatchedType (unless c UnmatchedType (Ok (arm_of m.value l.value)))) >>= λ a. next >>= λ t. Ok (push a t))
    third m l true true = refl
    third m l true false = refl
    third m l false c = refl

    second : (m : Lit) (g : Result Lit Refusal) → (g >>= λ l. unless (p m) UnmatchedType (unless (q l) UnmatchedType (next >>= λ t. Ok (push (arm_of m.value l.value) t)))) ≡ ((g >>= λ l. unless (p m) UnmatchedType (unless (q l) UnmatchedType (Ok (arm_of m.value l.value)))) >>= λ a. next >>= λ t. Ok (push a t))
    second m (Err r) = refl
    second m (Ok l) = third m l (p m) (q l)

    first : (x : Result Lit Refusal) → (x >>= λ m. g >>= λ l. unless (p m) UnmatchedType (unless (q l) UnmatchedType (next >>= λ t. Ok (push (arm_of m.value l.value) t)))) ≡ ((x >>= λ m. g >>= λ l. unless (p m) UnmatchedType (unless (q l) UnmatchedType (Ok (arm_of m.value l.value)))) >>= λ a. next >>= λ t. Ok (push a t))
    first (Err r) = refl
    first (Ok m) = second m g

module _ (T : Tables) (x : List ℕ) (argument result : ℕ) where
  chain-arm : (b c : Tree) (rest : Chain) → read_chain T x argument result (arm b c rest) ≡ (read_arm T x argument result b c >>= λ a. read_chain T x argument result rest >>= λ t. Ok (push a t))
  unfolding read_chain
  chain-arm b c rest = pulled (found UnexpectedForm (key x b)) (λ k. read T levels None k) (read T levels (Some result) c) (λ m. eqb m.row argument) (λ l. eqb l.row result) (read_chain T x argument result rest)

-- the arms before, then a table's own
abbrev pub after : List Arm → Table → Table
after front t = table_of (front ++ t.arms) t.«else»

pub bind_none : (m : Result Table Refusal) → (m >>= λ t. Ok (after [] t)) ≡ m
unfolding ◌>>=◌
bind_none (Ok t) = refl
bind_none (Err r) = refl

pub bind_more : (m : Result Table Refusal) (front : List Arm) (a : Arm) → ((m >>= λ t. Ok (push a t)) >>= λ t. Ok (after front t)) ≡ (m >>= λ t. Ok (after (front ++ (a ∷ [])) t))
unfolding ◌>>=◌
bind_more (Ok t) front a = ap (λ (xs : List Arm). Ok (table_of xs t.«else»)) (sym (append_assoc front (a ∷ []) t.arms))
bind_more (Err r) front a = refl

pub lines-append : (xs ys : List Arm) → length (arm_lines (xs ++ ys)) ≡ length (arm_lines xs) + length (arm_lines ys)
lines-append [] ys = omega arith
lines-append (a ∷ xs) ys =
    let h = lines-append xs ys in
    let one = line "when" (text a.«when») in
    let two = line "then" (text a.«then») in
    omega (arith, length-append one (two ++ arm_lines (xs ++ ys)), length-append two (arm_lines (xs ++ ys)), length-append one (two ++ arm_lines xs), length-append two (arm_lines xs))

-- what an answer tells of what was measured
pub was-refused : {A : Type 0} (n : Result A Refusal) (size : A → ℕ) (z : Refusal) → Err z ≡ measured size n → n ≡ Err z
was-refused (Ok a) size z e = let q : ◌≡◌ {A = ℕ} 0 1 = cc in absurd (omega arith)
was-refused (Err y) size z e = let q : z ≡ y = cc in ap Err (sym q)

pub record Was {A : Type 0} (n : Result A Refusal) (size : A → ℕ) (long : ℕ) : Type 0 where
  pub it : A
  pub read : n ≡ Ok it
  pub size_is : long ≡ capped (size it)

pub was-need : {A : Type 0} (n : Result A Refusal) (size : A → ℕ) (long : ℕ) → Ok long ≡ measured size n → Was n size long
was-need (Ok a) size long e = record { it = a; read = refl; size_is = cc }
was-need (Err y) size long e = let q : ◌≡◌ {A = ℕ} 0 1 = cc in absurd (omega arith)

closing : (n : Result Lit Refusal) (total : ℕ) (front : List Arm) (result : ℕ) → total ≡ capped (length (arm_lines front)) →
    closed_as total (measured value_size (n >>= λ l. unless (eqb l.row result) UnmatchedType (Ok l.value)))
    ≡ measured table_size ((n >>= λ l. unless (eqb l.row result) UnmatchedType (Ok (table_of [] l.value))) >>= λ table. Ok (after front table))
unfolding ◌>>=◌ unless
closing (Err r) total front result e = refl
closing (Ok l) total front result e = go (eqb l.row result)
  where
    sums : (t x v z : ℕ) → t ≡ min x 18446744073709551615 → z ≡ x + (4 + v + 2) → min (min (t + min v 18446744073709551615) 18446744073709551615 + 6) 18446744073709551615 ≡ min z 18446744073709551615
    sums t x v z a b = omega arith

    go : (b : Bool) → closed_as total (measured value_size (unless b UnmatchedType (Ok l.value))) ≡ measured table_size ((unless b UnmatchedType (Ok (table_of [] l.value))) >>= λ table. Ok (after front table))
    go false = refl
    go true =
        ap Ok
        (sums total (length (arm_lines front)) (length (text l.value)) (table_size (after front (table_of [] l.value))) e
        (length-append (arm_lines (front ++ [])) (line "else" (text l.value))
        ∙ ap (λ (xs : List Arm). length (arm_lines xs) + length (line "else" (text l.value))) (append-nil front)
        ∙ ap (λ (n : ℕ). length (arm_lines front) + n) (length-line "else" (text l.value))))

-- what was counted so far, and one thing more
pub sums-more : (t n now x y z : ℕ) → t ≡ capped x → n ≡ capped y → now ≡ capped (t + n) → z ≡ x + y → now ≡ capped z
sums-more t n now x y z a b c d = omega arith

-- of the body t, the arms before are read, and what is left stands at a node
pub record Left (T : Tables) (x : List ℕ) (argument result : ℕ) (t : Tree) (ws ts : List ℕ) (at total : ℕ) : Type 0 where
  pub front : List Arm
  pub here : Tree
  pub there : Standing here ws ts at
  pub same : read_chain T x argument result (chain t) ≡ (read_chain T x argument result (chain here) >>= λ table. Ok (after front table))
  pub sum : total ≡ capped (length (arm_lines front))

module _ (sorts fields members names ws ts : List ℕ) (offset size argument result body : ℕ) where
  abbrev pub LeftAt : ℕ → ℕ → Type 0
  LeftAt at total = (l : Lent) → Given sorts fields members names l → (x : List ℕ) (t : Tree) → Reads x ts offset size → Standing t ws ts body → Left (tables_of l) x argument result t ws ts at total

  pub chain-start : LeftAt body 0
  chain-start l g x t r s = record { front = []; here = t; there = s; same = sym (bind_none (read_chain (tables_of l) x argument result (chain t))); sum = refl }

  module _ (at total : ℕ) (h : LeftAt at total) where
    -- a tree stands within the words
    pub chain-past : length ws ≤ at → ChainAt sorts fields members names ws ts offset size argument result body (Err UnexpectedForm)
    chain-past p l g x t r s =
        let w = h l g x t r s in
        let z = standing-within w.here ws ts at w.there in
        absurd (omega arith)

    module _ (q : Option Link) (k : LinkAt ws ts at q) where
      module _ (test value rest : ℕ) (e : q ≡ Some (record { test = test; value = value; rest = rest })) (m : Result ℕ Refusal) (a : ArmAt sorts fields members names ws ts offset size argument result test value m) where
        shown : (t : Tree) → Standing t ws ts at → LinkShows ws ts at (Some (record { test = test; value = value; rest = rest })) t
        shown t s = shown-link ws ts at q (Some (record { test = test; value = value; rest = rest })) e k t s

        -- the arm that was read, then what follows it
        opened : (l : Lent) (x : List ℕ) (t : Tree) (s : Standing t ws ts at) →
            read_chain (tables_of l) x argument result (chain t) ≡ (read_arm (tables_of l) x argument result (shown t s).0 (shown t s).1 >>= λ y. read_chain (tables_of l) x argument result (chain (shown t s).2) >>= λ table. Ok (push y table))
        opened l x t s = ap (λ (c : Chain). read_chain (tables_of l) x argument result c) (shown t s).4 ∙ chain-arm (tables_of l) x argument result (shown t s).0 (shown t s).1 (chain (shown t s).2)

        pub chain-behind : rest ≤ at → ChainAt sorts fields members names ws ts offset size argument result body (Err UnexpectedForm)
        chain-behind p l g x t r s =
            let w = h l g x t r s in
            let z = (shown w.here w.there).8 in
            absurd (omega arith)

        pub chain-refused : (z : Refusal) → m ≡ Err z → ChainAt sorts fields members names ws ts offset size argument result body (Err z)
        unfolding ◌>>=◌
        chain-refused z f l g x t r s =
            let w = h l g x t r s in
            let v = shown w.here w.there in
            let y = was-refused (read_arm (tables_of l) x argument result v.0 v.1) arm_size z (sym f ∙ a l g x v.0 v.1 r v.5 v.6) in
            sym (ap (λ (n : Result Table Refusal). measured table_size n)
            (w.same ∙ ap (λ (n : Result Table Refusal). n >>= λ table. Ok (after w.front table)) (opened l x w.here w.there)
            ∙ ap (λ (n : Result Arm Refusal). (n >>= λ y. read_chain (tables_of l) x argument result (chain v.2) >>= λ table. Ok (push y table)) >>= λ table. Ok (after w.front table)) y))

        pub chain_next : (long : ℕ) → m ≡ Ok long → (now : ℕ) → now ≡ capped (total + long) → LeftAt rest now
        unfolding ◌>>=◌
        chain_next long f now i l g x t r s =
            let w = h l g x t r s in
            let v = shown w.here w.there in
            let y = was-need (read_arm (tables_of l) x argument result v.0 v.1) arm_size long (sym f ∙ a l g x v.0 v.1 r v.5 v.6) in
            record {
              front = w.front ++ (y.it ∷ []);
              here = v.2;
              there = v.7;
              same =
                  w.same ∙ ap (λ (n : Result Table Refusal). n >>= λ table. Ok (after w.front table)) (opened l x w.here w.there)
                  ∙ ap (λ (n : Result Arm Refusal). (n >>= λ y. read_chain (tables_of l) x argument result (chain v.2) >>= λ table. Ok (push y table)) >>= λ table. Ok (after w.front table)) y.read
                  ∙ bind_more (read_chain (tables_of l) x argument result (chain v.2)) w.front y.it;
              sum = sums-more total long now (length (arm_lines w.front)) (arm_size y.it) (length (arm_lines (w.front ++ (y.it ∷ [])))) w.sum y.size_is i (lines-append w.front (y.it ∷ []));
            }

      pub chain-end : q ≡ None → (a : Result Literal Refusal) → DecodesAt sorts fields members names ws ts at (Some result) levels a → (m : Result ℕ Refusal) → ValueOf a result m → (r : Result ℕ Refusal) → r ≡ closed_as total m → ChainAt sorts fields members names ws ts offset size argument result body r
      unfolding ◌>>=◌ read_chain
      chain-end e a d m v r f l g x t z s =
          let w = h l g x t z s in
          let c = shown-link ws ts at q None e k w.here w.there in
          f ∙ ap (λ (n : Result ℕ Refusal). closed_as total n) (v (read (tables_of l) levels (Some result) w.here) (d l g w.here w.there))
          ∙ closes (read (tables_of l) levels (Some result) w.here) total w.front w.sum
          ∙ sym (ap (λ (n : Result Table Refusal). measured table_size n) (w.same ∙ ap (λ (y : Chain). read_chain (tables_of l) x argument result y >>= λ table. Ok (after w.front table)) c))
        where
          closes : (n : Result Lit Refusal) (total : ℕ) (front : List Arm) → total ≡ capped (length (arm_lines front)) →
              closed_as total (measured value_size (n >>= λ l. unless (eqb l.row result) UnmatchedType (Ok l.value)))
              ≡ measured table_size ((n >>= λ l. unless (eqb l.row result) UnmatchedType (Ok (table_of [] l.value))) >>= λ table. Ok (after front table))
          closes n total front e = closing n total front result e
