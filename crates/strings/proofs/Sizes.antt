-- How many bytes a character takes in the string and in the text.
-- Assumes nothing.
use Rattle.std.proofs.Common.{None, Option, Some}
use mathlib.Core.Path.{◌≡◌, refl}
use mathlib.Core.Bool.{Bool, true, false, cond, ◌&&◌}
use mathlib.Core.List.{List, [], ◌∷◌}
use Prim.Native.Nat.{ℕ, zero, suc, ◌+◌, ◌*◌, ◌≤◌, ◌<◌}
use native.Mathlib.Omega.{arith}
use lib.Dec.{leb, eqb}
use lib.ListN.{length, take, drop, length-take, drop_of_length-le}
use borrow.Author.Tests.{eqb-true}
use Rattle.ground.proofs.Tests.{by_order, by_test, and-false}
use Rattle.words.specs.Run.{number}
use Rattle.utf8.specs.Encoding.{encoded, bytes_of}
use Rattle.utf8.proofs.Encodings.{encoded-length_le, encoded-length-two}
use Rattle.strings.specs.declared.character.Character.{Character}
use Rattle.strings.specs.Escape.{hex_run, starts_by, braced, closed, braced_escape, four_digits, after_u, escape}
use Rattle.strings.specs.Points.{escaped, character_at}
use Rattle.strings.proofs.Fours.{run_le}
use Rattle.strings.specs.declared.escape.Escape.{Escape}

-- a byte that the rest starts by is there
there : (x n : ℕ) (s : List ℕ) → starts_by x (drop n s) ≡ true → n < length s
there x n s h =
    by_order n (length s) (λ k. k)
    (λ k. let f : starts_by x (drop n s) ≡ false = rw (drop_of_length-le s k) in let z : ◌≡◌ {A = ℕ} 0 1 = cc in absurd (omega arith))

-- an escape takes 4 to 9 bytes after its backslash, all of them there
pub record Sized (s : List ℕ) (n : ℕ) : Type 0 where
  pub least : 4 ≤ n
  pub inside : n ≤ length s

abbrev SizedEscape : List ℕ → Option Escape → Type 0
SizedEscape s (Some it) = Sized s it.bytes
SizedEscape s None = Unit {0}

closed-sized : (t : Bool) (s : List ℕ) (v : ℕ) (n : ℕ) → (t ≡ true → Sized s (n + 3)) → SizedEscape s (cond t (Some (record { value = v; bytes = n + 3 })) None)
closed-sized true s v n h = h refl
closed-sized false s v n h = tt

some-digit : (n v : ℕ) → (leb 1 n && leb v 0x2FFFF) ≡ true → 1 ≤ n
some-digit zero v h = let z : ◌≡◌ {A = ℕ} 0 1 = cc in absurd (omega arith)
some-digit (suc n) v h = omega arith

braced-sized : (a b : ℕ) (s : List ℕ) → SizedEscape (a ∷ b ∷ s) (braced_escape s)
unfolding braced_escape braced
braced-sized a b s =
    by_test (starts_by 0x7D (drop (length (hex_run s)) s))
    (λ t. rw t (at-brace (leb (length (hex_run s)) 6 && true) (there 0x7D (length (hex_run s)) s t)))
    (λ t. rw t (rw (and-false (leb (length (hex_run s)) 6)) tt))
  where
    at-brace : (c : Bool) → length (hex_run s) < length s → SizedEscape (a ∷ b ∷ s) (closed (cond c (Some (record { value = number 16 (hex_run s); digits = length (hex_run s) })) None))
    at-brace true h =
        closed-sized (leb 1 (length (hex_run s)) && leb (number 16 (hex_run s)) 0x2FFFF) (a ∷ b ∷ s) (number 16 (hex_run s)) (length (hex_run s))
        (λ q. record { least = omega (arith, some-digit (length (hex_run s)) (number 16 (hex_run s)) q); inside = omega arith })
    at-brace false h = tt

four-sized : (a : ℕ) (s : List ℕ) → SizedEscape (a ∷ s) (four_digits s)
unfolding four_digits
four-sized a s =
    by_test (eqb (length (hex_run (take 4 s))) 4)
    (λ t. rw t (record { least = omega arith; inside = omega (arith, eqb-true (length (hex_run (take 4 s))) 4 t, run_le (take 4 s), length-take 4 s) }))
    (λ t. rw t tt)

pub escape-sized : (s : List ℕ) → SizedEscape s (escape s)
unfolding escape
escape-sized [] = tt
escape-sized (a ∷ s) = by_test (eqb a 0x75) (λ t. rw t (after s)) (λ t. rw t tt)
  where
    after : (s : List ℕ) → SizedEscape (a ∷ s) (after_u s)
    after [] = tt
    after (b ∷ s) = by_test (eqb b 0x7B) (λ t. rw t (braced-sized a b s)) (λ t. rw t (four-sized a (b ∷ s)))

-- a character whose first byte is a byte: its bytes are there, and its encoding has at most two for each
pub record Measures (rest : List ℕ) (c : Character) : Type 0 where
  pub inside : c.more ≤ length rest
  pub small : length (bytes_of (encoded c.point)) ≤ 2 * (1 + c.more)

escaped-measures : (s : List ℕ) (e : Option Escape) → SizedEscape s e → Measures s (escaped e)
escaped-measures s (Some it) h = record {
  inside = h.inside;
  small = let l = h.least in omega (arith, encoded-length_le it.value);
}
escaped-measures s None h = record { inside = omega arith; small = omega (arith, encoded-length-two 0x5C (omega arith)) }

quote-measures : (s : List ℕ) → Measures s (cond (starts_by 0x22 s) (record { point = 0x22; more = 1 }) (record { point = 0x22; more = 0 }))
quote-measures [] = record { inside = omega arith; small = omega (arith, encoded-length-two 0x22 (omega arith)) }
quote-measures (b ∷ s) =
    by_test (eqb b 0x22)
    (λ t. rw t (record { inside = omega arith; small = omega (arith, encoded-length-two 0x22 (omega arith)) }))
    (λ t. rw t (record { inside = omega arith; small = omega (arith, encoded-length-two 0x22 (omega arith)) }))

pub character-measures : (b : ℕ) (s : List ℕ) → b < 256 → Measures s (character_at (b ∷ s))
unfolding character_at
character-measures b s h =
    by_test (eqb b 0x5C) (λ t. rw t (escaped-measures s (escape s) (escape-sized s)))
    (λ t. rw t
    (by_test (eqb b 0x22) (λ u. rw u (quote-measures s))
    (λ u. rw u (record { inside = omega arith; small = omega (arith, encoded-length-two b (omega arith)) }))))
