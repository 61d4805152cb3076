-- The second pass up to a place: the walk so far, laid in the lent buffers, and the tree that it will be.
-- Assumes nothing.
use Rattle.std.proofs.Common.{Ok}
use mathlib.Core.Path.{◌≡◌, refl, sym, ap, ◌∙◌, subst}
use mathlib.Core.List.{List, [], ◌∷◌}
use Prim.Native.Nat.{ℕ, ◌+◌, ◌*◌, ◌-◌, ◌^◌, ◌≤◌, ◌<◌}
use native.Mathlib.Omega.{arith}
use lib.ListN.{length, take, drop, drop_of_length-le, take-append-drop, length-take}
use Rattle.strings.proofs.Texts.{Bytes}
use Rattle.arena.specs.Tree.{Tree, nodes, text}
use Rattle.arena.specs.Layout.{stride, words}
use Rattle.brackets.specs.declared.scan.Scan.{Scan}
use Rattle.brackets.specs.Token.{Token, opens, closes, atom, atom_text, atom_words}
use Rattle.brackets.specs.Count.{start}
use Rattle.brackets.specs.Put.{FineOpen, FineClose, FineLeaf}
use Rattle.brackets.specs.Walk.{Walk, going, done, fault, walk, step, tree, finish}
use Rattle.brackets.proofs.Agree.{Agrees, agree-step}
use Rattle.brackets.proofs.Upto.{Upto, upto}
use Rattle.brackets.proofs.Next.{Laid, Room, fine_open, fine-close, fine-leaf, room-text, laid_on, Kept, kept-none, kept_on}
use Rattle.tokens.specs.declared.lexeme.Lexeme.{Lexeme}
use Rattle.tokens.specs.Lexeme.{blank_span, lexeme_at}
use Rattle.tokens.specs.Piece.{Piece, space, token, wrong, piece_of, Lexed, ok, bad, emit, lex}
use Rattle.tokens.proofs.Lexes.{lex-nil, found-piece, lex-at, found_within, found-there}
use Rattle.tokens.proofs.Pasts.{past_same}
use Rattle.reader.specs.Tally.{turned, Ample}
use Rattle.refusals.specs.Limit.{input_limit}
use Rattle.reader.specs.Read.{outcome, parse}
use Rattle.reader.specs.Write.{Fine, piece_n, piece_t, piece_s, piece_c, Pieced, Ready, Wrote}
use Rattle.reader.proofs.Sofar.{Sofar, sofar-start, sofar-step, ample, sofar-past}

-- the walk after a piece
abbrev next : Walk → Piece → Walk
next w space = w
next w (token x) = step w x
next w (wrong why) = w

abbrev Right : Piece → Type 0
Right space = Unit {0}
Right (token x) = Unit {0}
Right (wrong why) = ⊥

agree-next : (w : Walk) (c : Scan) (p : Piece) → Agrees w c → Agrees (next w p) (piece_c c p)
agree-next w c space h = h
agree-next w c (token x) h = agree-step w c x h
agree-next w c (wrong why) h = h

turned_right : (c : Scan) (p : Piece) → Right p → Ok (piece_c c p) ≡ turned c p
turned_right c space h = refl
turned_right c (token x) h = refl
turned_right c (wrong why) h = absurd h

-- what the lexer took is one piece and the rest
record Rest (w : Walk) (p : Piece) (r : Lexed) (t : Tree) : Type 0 where
  pub ts : List Token
  pub lexed : r ≡ ok ts
  pub walked : walk (next w p) ts ≡ done t
  pub right : Right p

rest_of : (w : Walk) (p : Piece) (r : Lexed) (ts : List Token) (t : Tree) → emit p r ≡ ok ts → walk w ts ≡ done t → Rest w p r t
rest_of w space r ts t e h = record { ts = ts; lexed = e; walked = h; right = tt }
rest_of w (token x) (ok us) ts t e h =
    let q : x ∷ us ≡ ts = cc in
    record { ts = us; lexed = refl; walked = rw (← q) at h; right = tt }
rest_of w (token x) (bad why) ts t e h = let z : ◌≡◌ {A = ℕ} 0 1 = cc in absurd (omega arith)
rest_of w (wrong why) r ts t e h = let z : ◌≡◌ {A = ℕ} 0 1 = cc in absurd (omega arith)

module _ (t : Tree) (N T S : List ℕ) (room : Room t N T S) where
  fine-next : (w : Walk) (c : Scan) (p : Piece) → Agrees w c → Upto w t → Upto (next w p) t → Laid w N T S → Ample c p → Right p → Fine c p N T S
  fine-next w c space h a u l m r = tt
  fine-next w c (wrong why) h a u l m r = r
  fine-next (going st) c (token opens) h a u l m r =
      record { fine = subst (λ (x : Scan). FineOpen x.nodes x.depth N S) (sym h) (fine_open t N T S room st u); depth = m.depth; nodes = m.nodes }
  fine-next (going st) c (token closes) h a u l m r =
      record { fine = subst (λ (x : Scan). FineClose x.depth N S) (sym h) (fine-close t N T S room st a u l); depth = m.depth; nodes = m.nodes }
  fine-next (going st) c (token (atom b)) h a u l m r =
      record {
        node = record {
          leaf = subst (λ (x : Scan). FineLeaf x.nodes x.depth (atom_words b x.text) N S) (sym h) (fine-leaf t N T S room st b a u l);
          nodes = m.nodes;
          text = m.text (length (atom_text b)) refl;
        };
        room = subst (λ (x : Scan). x.text + length (atom_text b) ≤ length T) (sym h) (room-text t N T S room st b u);
      }
  fine-next (done y) c (token x) h a u l m r = absurd u
  fine-next (fault n) c (token x) h a u l m r = absurd u

  laid_next : (w : Walk) (c : Scan) (p : Piece) → Agrees w c → Upto w t → Upto (next w p) t → Laid w N T S
      → Laid (next w p) (piece_n c p N S) (piece_t c p T) (piece_s c p S)
  laid_next w c space h a u l = l
  laid_next w c (wrong why) h a u l = l
  laid_next (going st) c (token x) h a u l = rw h (laid_on t N T S room st x a u l)
  laid_next (done y) c (token x) h a u l = absurd u
  laid_next (fault n) c (token x) h a u l = absurd u

  kept_next : (w : Walk) (c : Scan) (p : Piece) → Agrees w c → Upto w t → Upto (next w p) t → Laid w N T S
      → Kept t N T S (piece_n c p N S) (piece_t c p T) (piece_s c p S)
  kept_next w c space h a u l = kept-none t N T S
  kept_next w c (wrong why) h a u l = kept-none t N T S
  kept_next (going st) c (token x) h a u l = rw h (kept_on t N T S room.text st x a u l)
  kept_next (done y) c (token x) h a u l = absurd u
  kept_next (fault n) c (token x) h a u l = absurd u

pub record Holds (s N₀ T₀ S₀ : List ℕ) (c : Scan) (at : ℕ) (N T S : List ℕ) : Type 0 where
  pub t : Tree
  pub w : Walk
  pub ts : List Token
  pub sofar : Sofar s at c
  pub agrees : Agrees w c
  pub whole : parse s ≡ tree t
  pub lexed : lex (drop at s) ≡ ok ts
  pub rest : walk w ts ≡ done t
  pub room : Room t N T S
  pub laid : Laid w N T S
  pub kept : Kept t N₀ T₀ S₀ N T S

-- one tree is what the first pass has found
pub record Found (r : Lexed) (t : Tree) : Type 0 where
  pub ts : List Token
  pub lexed : r ≡ ok ts
  pub walked : walk (going []) ts ≡ done t

pub finished : (w : Walk) (t : Tree) → finish w ≡ tree t → w ≡ done t
finished (going st) t e = let z : ◌≡◌ {A = ℕ} 0 1 = cc in absurd (omega arith)
finished (done y) t e = cc
finished (fault n) t e = let z : ◌≡◌ {A = ℕ} 0 1 = cc in absurd (omega arith)

pub found : (r : Lexed) (t : Tree) → outcome r ≡ tree t → Found r t
found (ok ts) t e = record { ts = ts; lexed = refl; walked = finished (walk (going []) ts) t e }
found (bad why) t e = let z : ◌≡◌ {A = ℕ} 0 1 = cc in absurd (omega arith)

pub parse-is : (s : List ℕ) → parse s ≡ outcome (lex s)
unfolding parse
parse-is s = refl

pub holds-start : (s N T S : List ℕ) (c : Scan) → Ready s N T S → length N < 2 ^ 63 → c ≡ start → Holds s N T S c 0 N T S
holds-start s N T S c r small q =
    let f = found (lex s) r.found (sym (parse-is s) ∙ r.parsed) in
    rw q
    (record {
      t = r.found;
      w = going [];
      ts = f.ts;
      sofar = sofar-start s;
      agrees = refl;
      whole = r.parsed;
      lexed = f.lexed;
      rest = f.walked;
      room = record { nodes = r.room_n; small = small; text = r.room_t; depth = r.room_s };
      laid = (refl, refl, refl);
      kept = kept-none r.found N T S;
    })

module _ (s N₀ T₀ S₀ : List ℕ) (c : Scan) (at : ℕ) (N T S : List ℕ) (l : Lexeme) (h : Holds s N₀ T₀ S₀ c at N T S)
    (bytes : Bytes s) (limit : length s ≤ input_limit) (less : at < length s) (is : l ≡ lexeme_at (drop at s)) where
  abbrev content : List ℕ
  content = take (at + l.skip + l.size - (at + l.skip)) (drop (at + l.skip) s)

  abbrev piece : Piece
  piece = piece_of l.kind content

  after : Rest h.w piece (lex (drop (at + l.width) s)) h.t
  after =
      rest_of h.w piece (lex (drop (at + l.width) s)) h.ts h.t
      (ap (λ (p : Piece). emit p (lex (drop (at + l.width) s))) (sym (found-piece s at l less is)) ∙ sym (lex-at s at l less is) ∙ h.lexed)
      h.rest

  step-before : Upto h.w h.t
  step-before = upto h.ts h.w h.t h.rest

  step_after : Upto (next h.w piece) h.t
  step_after = upto after.ts (next h.w piece) h.t after.walked

  pub holds-fine : (length content ≤ input_limit) × Fine c piece N T S
  holds-fine = (
    omega (arith, length-take (at + l.skip + l.size - (at + l.skip)) (drop (at + l.skip) s), found_within s at l less is, found-there s at l less is),
    fine-next h.t N T S h.room h.w c piece h.agrees step-before step_after h.laid (ample s at c l h.sofar bytes less is limit) after.right,
  )

  pub holds-again : (r : Scan) (N' T' S' : List ℕ) → Pieced c piece N N' T T' S S' r → Holds s N₀ T₀ S₀ r (at + l.width) N' T' S'
  holds-again r N' T' S' q =
      let k = kept_next h.t N T S h.room h.w c piece h.agrees step-before step_after h.laid in
      let k₀ = h.kept in
      let m = h.room in
      rw q.nodes (rw q.text (rw q.stack (rw q.next
      (record {
        t = h.t;
        w = next h.w piece;
        ts = after.ts;
        sofar = sofar-step s at c l h.sofar bytes less is (piece_c c piece) (turned_right c piece after.right);
        agrees = agree-next h.w c piece h.agrees;
        whole = h.whole;
        lexed = after.lexed;
        rest = after.walked;
        room = record { nodes = rw k.long_n m.nodes; small = rw k.long_n m.small; text = rw k.long_t m.text; depth = rw k.long_s m.depth };
        laid = laid_next h.t N T S h.room h.w c piece h.agrees step-before step_after h.laid;
        kept = record {
          nodes = k.nodes ∙ k₀.nodes;
          text = k.text ∙ k₀.text;
          stack = k.stack ∙ k₀.stack;
          long_n = k.long_n ∙ k₀.long_n;
          long_t = k.long_t ∙ k₀.long_t;
          long_s = k.long_s ∙ k₀.long_s;
        };
      }))))

-- white space changes nothing
pub holds-past : (s N₀ T₀ S₀ : List ℕ) (c : Scan) (at next : ℕ) (N T S : List ℕ) → Holds s N₀ T₀ S₀ c at N T S → next ≡ at + blank_span (drop at s) → Holds s N₀ T₀ S₀ c next N T S
holds-past s N₀ T₀ S₀ c at next N T S h p = record {
  t = h.t;
  w = h.w;
  ts = h.ts;
  sofar = sofar-past s at next c h.sofar p;
  agrees = h.agrees;
  whole = h.whole;
  lexed = past_same s at next p ∙ h.lexed;
  rest = h.rest;
  room = h.room;
  laid = h.laid;
  kept = h.kept;
}

laid_done : (w : Walk) (t : Tree) (N T S : List ℕ) → w ≡ done t → Laid w N T S → (take (nodes t * stride) N ≡ words t 0 0) × (take (length (text t)) T ≡ text t)
laid_done w t N T S e l = let q = rw e at l in (q.0, q.1)

pub holds-end : (s N₀ T₀ S₀ : List ℕ) (c : Scan) (at : ℕ) (N T S : List ℕ) → Holds s N₀ T₀ S₀ c at N T S → length s ≤ at → Wrote s N₀ N T₀ T S₀ S
holds-end s N₀ T₀ S₀ c at N T S h past =
    let n : ok [] ≡ ok h.ts = sym lex-nil ∙ ap lex (sym (drop_of_length-le s past)) ∙ h.lexed in
    let u : [] ≡ h.ts = cc in
    let e : h.w ≡ done h.t = rw (← u) at h.rest in
    let l = laid_done h.w h.t N T S e h.laid in
    let k = h.kept in
    record {
      found = h.t;
      parsed = h.whole;
      wrote_n = sym (take-append-drop (nodes h.t * stride) N) ∙ rw l.0 (rw k.nodes);
      wrote_t = sym (take-append-drop (length (text h.t)) T) ∙ rw l.1 (rw k.text);
      stack = k.stack;
      long = k.long_s;
    }
