-- What the program's rooms come to, and what is printed of it.
-- Assumes nothing.
use Rattle.std.proofs.Common.{Err, Ok, Result}
use mathlib.Core.Path.{◌≡◌, refl, subst}
use mathlib.Core.List.{List}
use Prim.Native.Nat.{ℕ}
use lib.ListN.{replicate}
use Rattle.refusals.specs.declared.Refusal.{Refusal}
use Rattle.reader.specs.Program.{program_words}
use Rattle.commands.specs.declared.form.Form.{Form}
use Rattle.reply.specs.Reply.{Rooms, Replies}
use Rattle.reply.specs.Printed.{shown, Shows, Lists, Prints}
use Rattle.reply.proofs.Trees.{rooms-equal}

module _ {form : Form} {tables reply entry : List ℕ} where
  pub in_rooms : {n t s : List ℕ} {r : Result ℕ Refusal} {after : Rooms} {exit : List ℕ} → n ≡ replicate program_words 0 → t ≡ replicate 65536 0 → s ≡ replicate 4096 0
      → Replies form tables reply (record { nodes = n; text = t; stack = s }) entry r after exit → Lists form tables reply entry r exit
  in_rooms {n} {t} {s} {r} {after} {exit} a b c d = record {
    after = after;
    replies = subst (λ (rooms : Rooms). Replies form tables reply rooms entry r after exit) (rooms-equal a b c) d;
  }

  module _ {answer : Result ℕ Refusal} {left : List ℕ} (lists : Lists form tables reply entry answer left) where
    pub prints-listing : {n : ℕ} → answer ≡ Ok n → Prints form tables reply entry n left
    prints-listing {n} e = record {
      answer = Ok n;
      left = left;
      lists = subst (λ (w : Result ℕ Refusal). Lists form tables reply entry w left) e lists;
      shows = record { counts = refl; holds = refl };
    }

    pub prints-refusal : {why : Refusal} {r : ℕ} {exit : List ℕ} → answer ≡ Err why → Shows (shown (Err why) left) r exit → Prints form tables reply entry r exit
    prints-refusal {why} {r} {exit} e s = record {
      answer = Err why;
      left = left;
      lists = subst (λ (w : Result ℕ Refusal). Lists form tables reply entry w left) e lists;
      shows = s;
    }
