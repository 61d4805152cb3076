use mathlib.Core.Path.{refl}
use Rattle.forms.proofs.Rows.{made_found, made_missing}
use Rattle.forms.proofs.made.made_form.Goals as goal

pub returns-in-Some : goal.returns-in-Some
returns-in-Some c = let a = c.args in made_found a.sorts.now a.names.now a.nodes.now a.text.now a.offset a.size a.first a.count _ (c.clamp-range.ensures.holds a.text.now refl) c.find_sort_name-found.result c.find_sort_name-found.ensures _ c.in-Some.is c.row_form.result c.row_form.ensures

pub returns-in-None : goal.returns-in-None
returns-in-None c = let a = c.args in made_missing a.sorts.now a.names.now a.nodes.now a.text.now a.offset a.size a.first a.count _ (c.clamp-range.ensures.holds a.text.now refl) c.find_sort_name-found.result c.find_sort_name-found.ensures c.in-None.is
