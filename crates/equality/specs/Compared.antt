-- Document 02, R-2, `=`: two values side by side by their forms, told to be one or not, or what is left to compare.
use Rattle.std.specs.Prelude.{◌≡◌, List, ℕ}
use Rattle.tables.specs.Sort.{Tables}
use Rattle.values.specs.Same.{same}
use Rattle.values.specs.Value.{Value, Values, v_set}
use Rattle.forms.specs.declared.form.Form.{Form}
use Rattle.forms.specs.Form.{Optional, Fielded, Says}
use Rattle.equality.specs.declared.side.Compared.{Compared}

module _ (T : Tables) (ms ws ts names : List ℕ) (below i last : ℕ) (v : Value) (under j end : ℕ) (w : Value) where
  abbrev pub ComparedSays : Compared → Type 0
  ComparedSays (Compared.Told r) = r ≡ same v w
  ComparedSays (Compared.Insides n m) = Optional T ms ws ts names below i last v n × Optional T ms ws ts names under j end w m
  ComparedSays Compared.Sets = ((vs : Values) × (v ≡ v_set vs)) × ((us : Values) × (w ≡ v_set us))
  ComparedSays (Compared.Fields n m many) = (row : ℕ) × Fielded T ms ws ts names below i last v row n many × Fielded T ms ws ts names under j end w row m many

-- of whatever values have the forms
abbrev pub Compares : List ℕ → List ℕ → Form → Form → Compared → Type 0
Compares names ts left right r =
    (T : Tables) (ms ws : List ℕ) (below i last : ℕ) (v : Value) (under j end : ℕ) (w : Value) → Says T ms ws ts names below i last v left → Says T ms ws ts names under j end w right →
    ComparedSays T ms ws ts names below i last v under j end w r

abbrev pub Anywhere : Form → Form → Compared → Type 0
Anywhere left right r = (names ts : List ℕ) → Compares names ts left right r

abbrev pub TextCompares : List ℕ → ℕ → ℕ → Form → Compared → Type 0
TextCompares ts offset size right r = (names : List ℕ) → Compares names ts (Form.Text offset size) right r
