-- One arm as an ended record, and one more in front of others.
-- Assumes nothing.
use Rattle.std.proofs.Common.{None, Option, Some}
use mathlib.Core.Path.{◌≡◌, sym, ◌∙◌, subst}
use mathlib.Core.List.{List, [], ◌∷◌, ◌++◌, map, append_assoc}
use Prim.Native.Nat.{ℕ}
use native.Mathlib.Omega.{arith}
use Rattle.ground.specs.Bytes.{bytes}
use Rattle.lent.specs.Put.{Offers}
use Rattle.runs.specs.Run.{end, run}
use Rattle.arena.specs.Tree.{Tree}
use Rattle.shapes.specs.Shows.{Standing}
use Rattle.sorts.specs.Sort.{levels}
use Rattle.values.specs.Normal.{normal}
use Rattle.values.specs.Text.{text}
use Rattle.value_text.specs.Value.{WritesInside}
use Rattle.value_text.proofs.Lays.{lays_then, lays_put, lays_as}
use Rattle.commands.specs.Command.{key}
use Rattle.commands.specs.TestShows.{KeyShows, KeyAt}
use Rattle.model.specs.Model.{Arm}
use Rattle.model.specs.Listing.{normal_arm}
use Rattle.arms.specs.Record.{arm_record, ended, arm_run}
use Rattle.arms.specs.Arm.{WritesWhen, LaysArm, WritesArm, WritesTest}
use Rattle.arms.specs.Walk.{LaysArms}

one_key : {t k : Tree} → ◌≡◌ {A = Option Tree} (Some t) (Some k) → t ≡ k
one_key e = cc

no_key : {R : Type 0} {k : Tree} → ◌≡◌ {A = Option Tree} None (Some k) → R
no_key e = let z : ◌≡◌ {A = ℕ} 0 1 = cc in absurd (omega arith)

run_more : (a : Arm) (arms : List Arm) → ended a ++ arm_run arms ≡ arm_run (a ∷ arms)
unfolding run
run_more a arms = append_assoc (arm_record a) (end ∷ []) (arm_run arms)

pub lays_more : (a : Arm) (arms : List Arm) {x y z : List ℕ} {place one next : ℕ} → LaysArm a x y place one → LaysArms arms y z one next → LaysArms (a ∷ arms) x z place next
lays_more a arms f g = lays_as (run_more a arms) (run_more (normal_arm a) (map normal_arm arms)) (lays_then f g)

module _ (sorts members names ws ts : List ℕ) (offset size test : ℕ) where
  module _ (q : Option ℕ) (k : KeyAt ws ts test offset size q) where
    pub when_none : q ≡ None → (a : List ℕ) (place : ℕ) → WritesWhen sorts members names ws ts offset size test a a place place
    when_none e a place l g x b t m row r s f o hs =
        let z : key x b ≡ None = subst (λ (y : Option ℕ). KeyShows ws ts y (key x b)) e (k x b r s) in
        no_key (sym z ∙ f)

    pub when_key : (node : ℕ) → q ≡ Some node → (a b c d : List ℕ) (place one two next : ℕ) → Offers a b place (bytes "when=") one → WritesInside sorts members names ws ts node levels b c one two →
        Offers c d two (bytes "\nthen=") next → WritesWhen sorts members names ws ts offset size test a d place next
    when_key node e a b c d place one two next first inside last l g x u t m row r s f o hs =
        let w = subst (λ (y : Option ℕ). KeyShows ws ts y (key x u)) e (k x u r s) in
        let st : Standing t ws ts node = subst (λ (y : Tree). Standing y ws ts node) (one_key (sym w.1 ∙ f)) w.2 in
        lays_then (lays_put first) (lays_then (inside l g t st None m o row hs) (lays_put last))

  module _ (a b c d : List ℕ) (place one two next : ℕ) (w : WritesWhen sorts members names ws ts offset size test a b place one) (last : Offers c d two (end ∷ []) next) where
    pub arm-of : (value : ℕ) → WritesInside sorts members names ws ts value levels b c one two → WritesArm sorts members names ws ts offset size test value a d place next
    unfolding arm_record
    arm-of value inside l g x u k m row r s f o hs t e n row' s' o' hs' =
        lays_then (lays_then (w l g x u k m row r s f o hs) (inside l g t s' e n o' row' hs')) (lays_put last)

    pub test_of : Offers b c one (bytes "true") two → WritesTest sorts members names ws ts offset size test a d place next
    unfolding arm_record text normal
    test_of p l g x u k m row r s f o hs = lays_then (lays_then (w l g x u k m row r s f o hs) (lays_put p)) (lays_put last)
