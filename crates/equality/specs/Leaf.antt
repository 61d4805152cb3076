-- Document 02, R-2, `=`: whether two values without another one in them are one, by their forms.
use Rattle.std.specs.Prelude.{◌≡◌, Bool, List, ℕ}
use Rattle.words.specs.Extension.{signed}
use Rattle.tables.specs.Sort.{Tables}
use Rattle.shapes.specs.declared.shape.Kind.{Kind}
use Rattle.shapes.specs.Shows.{ext_of}
use Rattle.values.specs.Same.{same}
use Rattle.values.specs.Value.{Value, v_ext, v_entity}
use Rattle.forms.specs.declared.form.Form.{Form}
use Rattle.forms.specs.Form.{Says}

abbrev pub NumberIs : Kind → ℕ → Kind → ℕ → Bool → Type 0
NumberIs kind low other word r = r ≡ same (v_ext (ext_of kind) (signed 64 low)) (v_ext (ext_of other) (signed 64 word))

-- whatever is said of a value by its form
abbrev pub Of : List ℕ → List ℕ → Form → (Value → Type 0) → Type 0
Of names ts form P = (T : Tables) (ms ws : List ℕ) (below i last : ℕ) (w : Value) → Says T ms ws ts names below i last w form → P w

abbrev pub EntityIs : List ℕ → List ℕ → ℕ → List ℕ → Form → Bool → Type 0
EntityIs names ts row s right r = Of names ts right (λ w. r ≡ same (v_entity row s) w)
