-- Arms as records of a run: their keys, their order, and their lines.
-- Assumes nothing.
use mathlib.Core.Path.{◌≡◌, refl, sym, ap, ◌∙◌}
use mathlib.Core.Bool.{true, not}
use mathlib.Core.List.{List, [], ◌∷◌, ◌++◌, map, append_assoc}
use Prim.Native.Nat.{ℕ, suc, ◌+◌}
use native.Mathlib.Omega.{arith}
use lib.ListN.{length, length-append}
use lib.Dec.{eqb, leb}
use borrow.Author.Tests.{ne_eqb, leb-true}
use Rattle.ground.specs.Bytes.{bytes}
use Rattle.ground.specs.Lists.{all}
use Rattle.ground.proofs.Tests.{both_left, both_right}
use Rattle.moves.specs.Replace.{replaced}
use Rattle.order.specs.Order.{before, arranged}
use Rattle.order.specs.Every.{Every, none, also}
use Rattle.order.proofs.Everies.{every_map, every-mapped, every-all}
use Rattle.order.proofs.Arranges.{map-order}
use Rattle.runs.specs.Run.{end, stop, key, run, plain}
use Rattle.tables.specs.Sort.{Tables}
use Rattle.values.specs.Text.{text}
use Rattle.values.specs.HasSort.{HasSort, Loose, Ascending}
use Rattle.values.proofs.Alls.{all_append}
use Rattle.values.proofs.Normals.{normal-fits}
use Rattle.values.proofs.Plains.{printable, text-plain, without}
use Rattle.model.specs.Model.{Arm}
use Rattle.model.specs.Listing.{line, arm_lines, normal_arm}
use Rattle.value_text.proofs.Closes.{replaced-first}
use Rattle.arms.specs.Record.{when_text, arm_record, arm_run}

-- both texts of an arm are printable
pub record Shown (a : Arm) : Type 0 where
  pub keys : all printable (text a.«when») ≡ true
  pub values : all printable (text a.«then») ≡ true

-- so are those of the arms of a table that fits, as they are listed
pub shown-normal : (T : Tables) (argument result : ℕ) (arms : List Arm) → Every (λ (a : Arm). HasSort a.«when» Loose T argument) arms → Every (λ (a : Arm). HasSort a.«then» Loose T result) arms →
    Every Shown (map normal_arm arms)
shown-normal T argument result [] none none = none
shown-normal T argument result (a ∷ arms) (also k ks) (also v vs) =
    also
    (record {
      keys = text-plain Ascending T (normal_arm a).«when» argument (normal-fits Loose T a.«when» argument k);
      values = text-plain Ascending T (normal_arm a).«then» result (normal-fits Loose T a.«then» result v);
    })
    (shown-normal T argument result arms ks vs)

record_plain : (a : Arm) → Shown a → plain (arm_record a) ≡ true
unfolding arm_record all
record_plain a h =
    let p : (s : List ℕ) → all printable s ≡ true → plain s ≡ true = λ s. without end (omega arith) s in
    all_append (λ b. not (eqb b end)) (when_text a.«when») (text a.«then»)
    (all_append (λ b. not (eqb b end)) (text a.«when») (bytes "\nthen=") (p (text a.«when») h.keys) refl)
    (p (text a.«then») h.values)

pub records-plain : (arms : List Arm) → Every Shown arms → all plain (map arm_record arms) ≡ true
records-plain arms h = every-all plain (map arm_record arms) (every-mapped (λ r. plain r ≡ true) arm_record arms (every_map Shown (λ a. plain (arm_record a) ≡ true) record_plain arms h))

-- the key ends where the line does
key-upto : (s r : List ℕ) → all printable s ≡ true → key (s ++ (stop ∷ r)) ≡ s
unfolding key all
key-upto [] r h = refl
key-upto (b ∷ bs) r h =
    let m = leb-true 33 b (both_left (leb 33 b) (leb b 126) (both_left (printable b) (all printable bs) h)) in
    rw (ne_eqb b stop (λ e. omega arith)) (ap (λ (t : List ℕ). b ∷ t) (key-upto bs r (both_right (printable b) (all printable bs) h)))

record_key : (a : Arm) → Shown a → key (arm_record a) ≡ bytes "when=" ++ text a.«when»
unfolding arm_record key
record_key a h =
    ap (λ (t : List ℕ). bytes "when=" ++ key t) (append_assoc (text a.«when») (bytes "\nthen=") (text a.«then»))
    ∙ ap (λ (t : List ℕ). bytes "when=" ++ t) (key-upto (text a.«when») (bytes "then=" ++ text a.«then») h.keys)

record_order : (a b : Arm) → Shown a → Shown b → before (key (arm_record a)) (key (arm_record b)) ≡ before (text a.«when») (text b.«when»)
unfolding before
record_order a b p q =
    ap (λ (k : List ℕ). before k (key (arm_record b))) (record_key a p) ∙ ap (λ (k : List ℕ). before (bytes "when=" ++ text a.«when») k) (record_key b q)

-- in order by their keys they are the records of the arms in order
pub records-arranged : (arms : List Arm) → Every Shown arms → arranged key true (map arm_record arms) ≡ map arm_record (arranged (λ a. text a.«when») true arms)
records-arranged arms h = sym (map-order (λ a. text a.«when») key arm_record true Shown record_order arms h)

-- a line end behind each is the arms' lines
one_arm : (a : Arm) (s : List ℕ) → arm_record a ++ (stop ∷ s) ≡ line "when" (text a.«when») ++ (line "then" (text a.«then») ++ s)
unfolding arm_record
one_arm a s =
    let v = text a.«when» in
    let w = text a.«then» in
    let e : when_text a.«when» ++ (w ++ (stop ∷ s)) ≡ line "when" v ++ (bytes "then=" ++ (w ++ (stop ∷ s))) =
    ap (λ (t : List ℕ). bytes "when=" ++ t) (append_assoc v (bytes "\nthen=") (w ++ (stop ∷ s)) ∙ sym (append_assoc v (bytes "\n") (bytes "then=" ++ (w ++ (stop ∷ s))))) in
    append_assoc (when_text a.«when») w (stop ∷ s) ∙ e ∙ ap (λ (t : List ℕ). line "when" v ++ (bytes "then=" ++ t)) (sym (append_assoc w (bytes "\n") s))

pub lines-replaced : (arms : List Arm) → Every Shown arms → replaced end stop (arm_run arms) ≡ arm_lines arms
unfolding run replaced
lines-replaced [] none = refl
lines-replaced (a ∷ arms) (also p ps) =
    replaced-first stop (arm_record a) (map arm_record arms) (records-plain (a ∷ arms) (also p ps))
    ∙ ap (λ (t : List ℕ). arm_record a ++ (stop ∷ t)) (lines-replaced arms ps)
    ∙ one_arm a (arm_lines arms)

-- and as long
pub lines_long : (arms : List Arm) → length (arm_lines arms) ≡ length (arm_run arms)
unfolding run
lines_long [] = refl
lines_long (a ∷ arms) =
    let h = lines_long arms in
    sym (ap length (one_arm a (arm_lines arms))) ∙ length-append (arm_record a) (stop ∷ arm_lines arms)
    ∙ ap (λ (n : ℕ). length (arm_record a) + suc n) h ∙ sym (length-append (arm_record a) (end ∷ arm_run arms))
