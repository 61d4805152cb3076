-- Document 02, R-2; SMT-LIB 2.7, theory FixedSizeBitVectors, bvnego, bvsaddo, bvsmulo: closed examples at the ends of the ranges.
use Rattle.std.specs.Prelude.{◌≡◌, ℕ, ◌-◌, ◌^◌, Bool, true, false, List, [], ◌∷◌, negsuc, ◌+ℤ◌, ◌*ℤ◌, neg_ℤ, refl}
use Rattle.words.specs.Extension.{signed}
use Rattle.overflow.specs.Overflow.{tells, number}

abbrev negation : ℕ → ℕ → Bool
negation w n = tells w (neg_ℤ (number w n))

abbrev sum : ℕ → ℕ → ℕ → Bool
sum w m n = tells w (number w m +ℤ number w n)

abbrev product : ℕ → ℕ → ℕ → Bool
product w m n = tells w (number w m *ℤ number w n)

-- `(_ bv128 8)` is -128, the least number of 8 bits
least_8 : number 8 128 ≡ negsuc 127
unfolding signed
least_8 = refl

-- of each width the least number's negation, that of the number above it, and that of the largest one
negations : (negation 8 128 ∷ negation 8 129 ∷ negation 8 127 ∷ negation 128 (2 ^ 127) ∷ negation 128 (2 ^ 127 - 1) ∷ []) ≡ (true ∷ false ∷ false ∷ true ∷ false ∷ [])
unfolding signed
negations = refl

-- 2^127 - 1 and 1; -1 and 1; the least number and -1; the least number twice; the largest and the least
sums : (sum 128 (2 ^ 127 - 1) 1 ∷ sum 128 (2 ^ 128 - 1) 1 ∷ sum 128 (2 ^ 127) (2 ^ 128 - 1) ∷ sum 128 (2 ^ 127) (2 ^ 127) ∷ sum 128 (2 ^ 127 - 1) (2 ^ 127) ∷ []) ≡ (true ∷ false ∷ true ∷ true ∷ false ∷ [])
unfolding signed
sums = refl

-- -1 and the least number, at 8 and at 128 bits
products_least : (product 8 255 128 ∷ product 8 128 255 ∷ product 128 (2 ^ 128 - 1) (2 ^ 127) ∷ product 128 (2 ^ 127) (2 ^ 128 - 1) ∷ []) ≡ (true ∷ true ∷ true ∷ true ∷ [])
unfolding signed
products_least = refl

-- 64 and 2 make 128, 64 and -2 make -128, 43 and -3 make -129; 2^64 and 2^63 make 2^127, and -2^64 and 2^63 make -2^127
products_edge : (product 8 64 2 ∷ product 8 64 254 ∷ product 8 43 253 ∷ product 128 (2 ^ 64) (2 ^ 63) ∷ product 128 (2 ^ 128 - 2 ^ 64) (2 ^ 63) ∷ []) ≡ (true ∷ false ∷ true ∷ true ∷ false ∷ [])
unfolding signed
products_edge = refl

-- of one bit, 1 is -1
bits_1 : (negation 1 0 ∷ negation 1 1 ∷ sum 1 1 0 ∷ sum 1 1 1 ∷ product 1 1 0 ∷ product 1 1 1 ∷ []) ≡ (false ∷ true ∷ false ∷ true ∷ false ∷ true ∷ [])
unfolding signed
bits_1 = refl

-- all pairs of two bits: 0, 1, -2 and -1 with each of them
abbrev table : (ℕ → ℕ → Bool) → List (List Bool)
table f = row 0 ∷ row 1 ∷ row 2 ∷ row 3 ∷ []
  where
    row : ℕ → List Bool
    row m = f m 0 ∷ f m 1 ∷ f m 2 ∷ f m 3 ∷ []

sums_2 : table (sum 2) ≡ ((false ∷ false ∷ false ∷ false ∷ []) ∷ (false ∷ true ∷ false ∷ false ∷ []) ∷ (false ∷ false ∷ true ∷ true ∷ []) ∷ (false ∷ false ∷ true ∷ false ∷ []) ∷ [])
unfolding signed
sums_2 = refl

products_2 : table (product 2) ≡ ((false ∷ false ∷ false ∷ false ∷ []) ∷ (false ∷ false ∷ false ∷ false ∷ []) ∷ (false ∷ false ∷ true ∷ true ∷ []) ∷ (false ∷ false ∷ true ∷ false ∷ []) ∷ [])
unfolding signed
products_2 = refl

-- no bits, and more than 128
others : (negation 0 1 ∷ sum 0 1 1 ∷ product 0 1 1 ∷ negation 129 (2 ^ 128) ∷ sum 129 (2 ^ 128) (2 ^ 128) ∷ product 129 (2 ^ 128) (2 ^ 128) ∷ []) ≡ (false ∷ false ∷ false ∷ false ∷ false ∷ false ∷ [])
unfolding signed
others = refl
