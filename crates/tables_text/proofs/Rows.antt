-- A line's parts as the code finds them, and the row that the line spells: variables, functions, enum members.
-- Assumes nothing.
use Rattle.std.proofs.Common.{None, Option, Some}
use mathlib.Core.Path.{◌≡◌, refl, sym, ap, ap₂, ◌∙◌, subst}
use mathlib.Core.Bool.{Bool, true, false, not}
use mathlib.Core.List.{List, [], ◌∷◌, ◌++◌}
use Prim.Native.Nat.{ℕ, ◌+◌, ◌-◌, ◌≤◌, ◌<◌}
use native.Mathlib.Omega.{arith}
use lib.ListN.{length, take, drop, length-drop, length-append}
use lib.Seq.{drop_at, drop-drop, append_snoc}
use borrow.Author.Tests.{not-true, not-false}
use Rattle.ground.specs.Bytes.{bytes}
use Rattle.ground.specs.Options.{over}
use Rattle.tables_text.specs.Parse.{begins, span_to, Cut, cut_at, space, numeral, Led, led, variable_after, variable_in, function_after, function_in, member_after, member_in}
use Rattle.tables_text.specs.Told.{number_told, before_told, variable_told, function_told, member_told}
use Rattle.tables_text.proofs.Cuts.{begins-long, cut_split, word-long, place_none, place-some, to_end}
use Rattle.tables_text.proofs.Numerals.{told_is, told-other}
use Rattle.ground.proofs.Options.{some-same}
use Rattle.tables_text.specs.declared.row.Before.{Before}

-- the key stands, or not
pub keyed : (b : Bool) (key s : List ℕ) → b ≡ begins key s → not b ≡ false → begins key s ≡ true
keyed b key s e k = sym e ∙ not-false b k

pub unkeyed : (b : Bool) (key s : List ℕ) → b ≡ begins key s → not b ≡ true → begins key s ≡ false
unkeyed b key s e k = sym e ∙ not-true b k

-- a number up to a space
module _ (s : List ℕ) (start end : ℕ) (le : start ≤ length s) (e : end ≡ start + span_to space (drop start s)) where
  pub before-none : length s ≤ end → None ≡ before_told start (led (drop start s))
  unfolding led
  before-none h = rw (place_none space s start end le e h)

  module _ (h : end < length s) (r : Option ℕ) (g : r ≡ number_told (numeral (take (end - start) (drop start s)))) where
    pub before-other : r ≡ None → None ≡ before_told start (led (drop start s))
    unfolding led
    before-other o = rw (place-some space s start end le e h) (rw (told-other (numeral (take (end - start) (drop start s))) (sym o ∙ g)))

    pub before-is : (n : ℕ) → r ≡ Some n → (Some (record { number = n; next = end + 1 })) ≡ before_told start (led (drop start s))
    unfolding led
    before-is n o =
        let l : end + 1 ≡ start + length (take (end - start) (drop start s)) + 1 = omega (arith, word-long space s start end le e, e) in
        rw (place-some space s start end le e h) (rw (told_is (numeral (take (end - start) (drop start s))) n (sym o ∙ g)) (ap (λ (k : ℕ). Some (record { number = n; next = k })) l))

-- what was told, of what was cut
pub record Found (s : List ℕ) (start n next : ℕ) : Type 0 where
  pub word : List ℕ
  pub is : led (drop start s) ≡ Some (record { number = n; word = word; rest = drop next s })
  pub within : next ≤ length s

led_splits : (s : List ℕ) (d : Led) → led s ≡ Some d → s ≡ d.word ++ space ∷ d.rest
unfolding led
led_splits s d h = by_cut (cut_at space s) refl
  where
    some_same : {a b : Led} → ◌≡◌ {A = Option Led} (Some a) (Some b) → a ≡ b
    some_same q = cc

    by_number : (c : Cut) → cut_at space s ≡ Some c → (o : Option ℕ) → over o (λ n. Some (record { number = n; word = c.word; rest = c.rest })) ≡ Some d → s ≡ d.word ++ space ∷ d.rest
    by_number c k None q = let z : ◌≡◌ {A = ℕ} 0 1 = cc in absurd (omega arith)
    by_number c k (Some n) q = subst (λ (x : Led). s ≡ x.word ++ space ∷ x.rest) (some_same q) (cut_split space s c k)

    by_cut : (o : Option Cut) → cut_at space s ≡ o → s ≡ d.word ++ space ∷ d.rest
    by_cut None k = let z : None ≡ Some d = ap (λ (x : Option Cut). over x (λ c. over (numeral c.word) (λ n. Some (record { number = n; word = c.word; rest = c.rest })))) (sym k) ∙ h in let y : ◌≡◌ {A = ℕ} 0 1 = cc in absurd (omega arith)
    by_cut (Some c) k = by_number c k (numeral c.word) (ap (λ (x : Option Cut). over x (λ c. over (numeral c.word) (λ n. Some (record { number = n; word = c.word; rest = c.rest })))) (sym k) ∙ h)

module _ (s : List ℕ) (start : ℕ) (le : start ≤ length s) where
  pub before-found : (n next : ℕ) → (Some (record { number = n; next = next })) ≡ before_told start (led (drop start s)) → Found s start n next
  before-found n next h = by-led (led (drop start s)) refl h
    where
      by-led : (o : Option Led) → led (drop start s) ≡ o → (Some (record { number = n; next = next })) ≡ before_told start o → Found s start n next
      by-led None k q = let z : ◌≡◌ {A = ℕ} 0 1 = cc in absurd (omega arith)
      by-led (Some d) k q =
          let e = some-same q in
          let a : d.number ≡ n = ap (λ (f : Before). f.number) (sym e) in
          let b : start + length d.word + 1 ≡ next = ap (λ (f : Before). f.next) (sym e) in
          let j = led_splits (drop start s) d k in
          let m : start + (length d.word + 1) ≡ next = omega (arith, b) in
          let r : d.rest ≡ drop next s =
          sym (drop_at (d.word ++ (space ∷ [])) d.rest (length d.word + 1) (length-append d.word (space ∷ [])))
          ∙ ap (drop (length d.word + 1)) (append_snoc d.word space d.rest ∙ sym j)
          ∙ drop-drop (length d.word + 1) start s
          ∙ ap (λ (i : ℕ). drop i s) m in
          record {
            word = d.word;
            is = k ∙ ap₂ (λ (x : ℕ) (y : List ℕ). Some (record { number = x; word = d.word; rest = y })) a r;
            within = omega (arith, b, ap length j, length-append d.word (space ∷ d.rest), length-drop start s, le);
          }

  pub before_lacks : None ≡ before_told start (led (drop start s)) → led (drop start s) ≡ None
  before_lacks h = by-led (led (drop start s)) h
    where
      by-led : (o : Option Led) → None ≡ before_told start o → o ≡ None
      by-led None q = refl
      by-led (Some d) q = let z : ◌≡◌ {A = ℕ} 0 1 = cc in absurd (omega arith)

-- a variable's line
module _ (s : List ℕ) where
  pub variable-unkeyed : begins (bytes "var=") s ≡ false → None ≡ variable_told (variable_in s)
  unfolding variable_in
  variable-unkeyed k = rw k

  module _ (k : begins (bytes "var=") s ≡ true) (end : ℕ) (e : end ≡ 4 + span_to space (drop 4 s)) where
    pub variable_uncut : length s ≤ end → None ≡ variable_told (variable_in s)
    unfolding variable_in variable_after
    variable_uncut h = rw k (rw (place_none space s 4 end (begins-long (bytes "var=") s k) e h))

    module _ (h : end < length s) (r : Option ℕ) (g : r ≡ number_told (numeral (take (length s - (end + 1)) (drop (end + 1) s)))) where
      variable-found : (o : Option ℕ) → numeral (drop (end + 1) s) ≡ o → variable_in s ≡ over o (λ n. Some (record { name = take (end - 4) (drop 4 s); sort = n }))
      unfolding variable_in variable_after
      variable-found o q = rw k (rw (place-some space s 4 end (begins-long (bytes "var=") s k) e h) (rw q))

      variable-value : r ≡ number_told (numeral (drop (end + 1) s))
      variable-value = g ∙ ap (λ (l : List ℕ). number_told (numeral l)) (to_end s (end + 1))

      pub variable-other : r ≡ None → None ≡ variable_told (variable_in s)
      variable-other o = ap variable_told (sym (variable-found None (told-other (numeral (drop (end + 1) s)) (sym o ∙ variable-value))))

      pub variable-row : (n : ℕ) → r ≡ Some n → (Some (record { name = end - 4; sort = n })) ≡ variable_told (variable_in s)
      variable-row n o =
          ap (λ (m : ℕ). (Some (record { name = m; sort = n }))) (sym (word-long space s 4 end (begins-long (bytes "var=") s k) e))
          ∙ ap variable_told (sym (variable-found (Some n) (told_is (numeral (drop (end + 1) s)) n (sym o ∙ variable-value))))

-- a function's
module _ (s : List ℕ) where
  pub function-unkeyed : begins (bytes "fun=") s ≡ false → None ≡ function_told (function_in s)
  unfolding function_in
  function-unkeyed k = rw k

  module _ (k : begins (bytes "fun=") s ≡ true) (end : ℕ) (e : end ≡ 4 + span_to space (drop 4 s)) where
    pub function_uncut : length s ≤ end → None ≡ function_told (function_in s)
    unfolding function_in function_after
    function_uncut h = rw k (rw (place_none space s 4 end (begins-long (bytes "fun=") s k) e h))

    module _ (h : end < length s) where
      function-begun : (o : Option Led) → led (drop (end + 1) s) ≡ o
          → function_in s ≡ over o (λ d. over (numeral d.rest) (λ n. Some (record { name = take (end - 4) (drop 4 s); argument = d.number; result = n })))
      unfolding function_in function_after
      function-begun o q = rw k (rw (place-some space s 4 end (begins-long (bytes "fun=") s k) e h) (rw q))

      pub function-other : None ≡ before_told (end + 1) (led (drop (end + 1) s)) → None ≡ function_told (function_in s)
      function-other q = ap function_told (sym (function-begun None (before_lacks s (end + 1) (omega arith) q)))

      module _ (n next : ℕ) (q : (Some (record { number = n; next = next })) ≡ before_told (end + 1) (led (drop (end + 1) s))) where
        pub function-within : next ≤ length s
        function-within = (before-found s (end + 1) (omega arith) n next q).within

        module _ (r : Option ℕ) (g : r ≡ number_told (numeral (take (length s - next) (drop next s)))) where
          function-found : (o : Option ℕ) → numeral (drop next s) ≡ o → function_in s ≡ over o (λ m. Some (record { name = take (end - 4) (drop 4 s); argument = n; result = m }))
          function-found o p = function-begun _ (before-found s (end + 1) (omega arith) n next q).is ∙ ap (λ (x : Option ℕ). over x (λ m. Some (record { name = take (end - 4) (drop 4 s); argument = n; result = m }))) p

          function-value : r ≡ number_told (numeral (drop next s))
          function-value = g ∙ ap (λ (l : List ℕ). number_told (numeral l)) (to_end s next)

          pub function-unread : r ≡ None → None ≡ function_told (function_in s)
          function-unread o = ap function_told (sym (function-found None (told-other (numeral (drop next s)) (sym o ∙ function-value))))

          pub function-row : (m : ℕ) → r ≡ Some m → (Some (record { name = end - 4; argument = n; result = m })) ≡ function_told (function_in s)
          function-row m o =
              ap (λ (l : ℕ). (Some (record { name = l; argument = n; result = m }))) (sym (word-long space s 4 end (begins-long (bytes "fun=") s k) e))
              ∙ ap function_told (sym (function-found (Some m) (told_is (numeral (drop next s)) m (sym o ∙ function-value))))

-- an enum member's
module _ (s : List ℕ) where
  pub member-unkeyed : begins (bytes "enum=") s ≡ false → None ≡ member_told (member_in s)
  unfolding member_in
  member-unkeyed k = rw k

  module _ (k : begins (bytes "enum=") s ≡ true) (end : ℕ) (e : end ≡ 5 + span_to space (drop 5 s)) where
    pub member_uncut : length s ≤ end → None ≡ member_told (member_in s)
    unfolding member_in member_after
    member_uncut h = rw k (rw (place_none space s 5 end (begins-long (bytes "enum=") s k) e h))

    module _ (h : end < length s) where
      member-begun : (o : Option Led) → led (drop (end + 1) s) ≡ o
          → member_in s ≡ over o (λ d. Some (record { name = take (end - 5) (drop 5 s); entity = d.number; text = d.rest }))
      unfolding member_in member_after
      member-begun o q = rw k (rw (place-some space s 5 end (begins-long (bytes "enum=") s k) e h) (rw q))

      pub member-other : None ≡ before_told (end + 1) (led (drop (end + 1) s)) → None ≡ member_told (member_in s)
      member-other q = ap member_told (sym (member-begun None (before_lacks s (end + 1) (omega arith) q)))

      module _ (n next : ℕ) (q : (Some (record { number = n; next = next })) ≡ before_told (end + 1) (led (drop (end + 1) s))) where
        pub member-within : next ≤ length s
        member-within = (before-found s (end + 1) (omega arith) n next q).within

        pub member-row : (Some (record { name = end - 5; entity = n; text = length s - next })) ≡ member_told (member_in s)
        member-row =
            ap₂ (λ (l m : ℕ). (Some (record { name = l; entity = n; text = m }))) (sym (word-long space s 5 end (begins-long (bytes "enum=") s k) e)) (sym (length-drop next s))
            ∙ ap member_told (sym (member-begun _ (before-found s (end + 1) (omega arith) n next q).is))
