-- SMT-LIB 2.7 §3.1, string literal, and Unicode Strings: what stands between the quotes, and the bytes that it stands for.
use Rattle.std.specs.Prelude.{◌≡◌, Bool, true, false, ◌&&◌, List, [], ◌∷◌, ℕ, leb, ltb, eqb}

abbrev pub within : ℕ → ℕ → ℕ → Bool
within least most b = leb least b && leb b most

abbrev pub quote : ℕ
quote = 0x22

-- bytes below 80 hex, also those that the standard leaves out, a quote only doubled: the theory has none from 80 hex on
pub data Literal : List ℕ → Type 0 where
  empty : Literal []
  byte : {b : ℕ} {s : List ℕ} → ltb b 0x80 ≡ true → eqb b quote ≡ false → Literal s → Literal (b ∷ s)
  doubled : {s : List ℕ} → Literal s → Literal (quote ∷ quote ∷ s)

-- `""` stands for one `"`, so the second of two is passed over; a backslash, as any other byte, stands for itself
abbrev pub unquoted_after : Bool → List ℕ → List ℕ
unquoted_after second [] = []
unquoted_after false (b ∷ bs) = b ∷ unquoted_after (eqb b quote) bs
unquoted_after true (b ∷ bs) = unquoted_after false bs

unfoldable pub unquoted : List ℕ → List ℕ
unquoted s = unquoted_after false s
