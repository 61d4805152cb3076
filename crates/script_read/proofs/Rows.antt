-- S-expressions in a row, with white space between two.
-- Assumes nothing.
use mathlib.Core.Path.{◌≡◌, refl, sym, ap, ◌∙◌}
use mathlib.Core.Bool.{true}
use mathlib.Core.List.{List, [], ◌∷◌, ◌++◌}
use Prim.Native.Nat.{ℕ}
use Rattle.ground.specs.Lists.{joined}
use Rattle.words.specs.Radix.{worth}
use Rattle.lexicon.specs.Class.{class_of}
use Rattle.lexicon.specs.Span.{in_symbol}
use Rattle.arena.specs.Tree.{Tree, Trees, nil, cons}
use Rattle.brackets.specs.Token.{Token}
use Rattle.brackets.specs.Walk.{Walk, going, walk, tree}
use Rattle.brackets.proofs.Snoc.{chain, chain-nil, chain-chain, chain-one}
use Rattle.tokens.specs.Lexeme.{lexeme_at}
use Rattle.tokens.specs.Piece.{piece_at, Lexed, ok, bad, lex_after, lex}
use Rattle.tokens.proofs.Lexes.{lex-nil}
use Rattle.reader.specs.Read.{outcome, parse}
use Rattle.reader.proofs.Holds.{finished}
use Rattle.script_read.specs.Reads.{outside_after, outside, Expression, Expressions, none, first}
use Rattle.script_read.proofs.Stops.{Stops}
use Rattle.script_read.proofs.Joins.{faultless, then, joined-lex, joined-outside}
use Rattle.script_read.proofs.Walks.{walk-append, below, no-tree}

-- bytes whose tokens add these trees to the innermost open list
pub record Row (s : List ℕ) (ts : Trees) : Type 0 where
  pub tokens : List Token
  pub lexed : lex s ≡ ok tokens
  pub ends : outside s ≡ true
  pub walked : (ks : Trees) (st : List Trees) → walk (going (ks ∷ st)) tokens ≡ going (chain ks ts ∷ st)

row_of : (s : List ℕ) (t : Tree) (l : Lexed) → lex s ≡ l → outcome l ≡ tree t → outside s ≡ true → Row s (cons t nil)
row_of s t (ok xs) e h o = record {
  tokens = xs;
  lexed = e;
  ends = o;
  walked = λ ks st.
      below (ks ∷ st) t xs [] (finished (walk (going []) xs) t h) ∙ ap (λ (l : Trees). going (l ∷ st)) (chain-one ks t);
}
row_of s t (bad why) e h o = no-tree h

pub row_one : {s : List ℕ} {t : Tree} → Expression s t → Row s (cons t nil)
unfolding parse
row_one {s} {t} x = row_of s t (lex s) refl x.parsed x.ends

row-none : Row [] nil
unfolding outside_after
row-none = record {
  tokens = [];
  lexed = lex-nil;
  ends = refl;
  walked = λ ks st. ap (λ (l : Trees). going (l ∷ st)) (sym (chain-nil ks));
}

-- what is before a byte that ends every run, and what starts with it
module _ {s : List ℕ} {ts : Trees} (r : Row s ts) (b : ℕ) (u : List ℕ) (stops : Stops b) where
  fine : faultless (lex s) ≡ true
  fine = ap faultless r.lexed

  pub row-lex : {ys : List Token} → lex (b ∷ u) ≡ ok ys → lex (s ++ (b ∷ u)) ≡ ok (r.tokens ++ ys)
  row-lex {ys} h = joined-lex b u stops s fine r.ends ∙ ap (λ (l : Lexed). then l (lex (b ∷ u))) r.lexed ∙ ap (then (ok r.tokens)) h

  pub row_ends : outside (s ++ (b ∷ u)) ≡ outside (b ∷ u)
  row_ends = joined-outside b u stops s fine r.ends

  row-then : {us : Trees} → Row (b ∷ u) us → Row (s ++ (b ∷ u)) (chain ts us)
  row-then {us} q = record {
    tokens = r.tokens ++ q.tokens;
    lexed = row-lex q.lexed;
    ends = row_ends ∙ q.ends;
    walked = λ ks st.
        walk-append (going (ks ∷ st)) r.tokens q.tokens ∙ ap (λ (w : Walk). walk w q.tokens) (r.walked ks st)
        ∙ q.walked (chain ks ts) st ∙ ap (λ (l : Trees). going (l ∷ st)) (chain-chain ks ts us);
  }

-- white space
pub record Gap (b : ℕ) : Type 0 where
  pub stops : Stops b
  pub lexed : (s : List ℕ) → lex (b ∷ s) ≡ lex s
  pub ends : (s : List ℕ) → outside (b ∷ s) ≡ outside s

pub feed : Gap 0x0A
unfolding lex_after piece_at lexeme_at class_of in_symbol worth outside_after
feed = record {
  stops = record { symbol = refl; digit = refl; quote = refl };
  lexed = λ s. refl;
  ends = λ s. refl;
}

pub blank : Gap 0x20
unfolding lex_after piece_at lexeme_at class_of in_symbol worth outside_after
blank = record {
  stops = record { symbol = refl; digit = refl; quote = refl };
  lexed = λ s. refl;
  ends = λ s. refl;
}

abbrev pub Gaps : List ℕ → Type 0
Gaps [] = Unit {0}
Gaps (b ∷ bs) = Gap b × Gaps bs

pub row-after : (bs : List ℕ) → Gaps bs → {s : List ℕ} {ts : Trees} → Row s ts → Row (bs ++ s) ts
row-after [] g r = r
row-after (b ∷ bs) g {s} r =
    let q = row-after bs g.1 r in
    record { tokens = q.tokens; lexed = g.0.lexed (bs ++ s) ∙ q.lexed; ends = g.0.ends (bs ++ s) ∙ q.ends; walked = q.walked }

-- parts with a gap between two
pub row-joined : (b : ℕ) (bs : List ℕ) → Gaps (b ∷ bs) → {parts : List (List ℕ)} {ts : Trees} → Expressions parts ts → Row (joined (b ∷ bs) parts) ts
unfolding joined
row-joined b bs g none = row-none
row-joined b bs g (first x none) = row_one x
row-joined b bs g (first x (first {part} {t} {parts} y xs)) =
    row-then (row_one x) b (bs ++ joined (b ∷ bs) (part ∷ parts)) g.0.stops (row-after (b ∷ bs) g (row-joined b bs g (first y xs)))
