use Rattle.value_text.specs.declared.made.Made.{Made}
use Rattle.value_text.proofs.Mades.{made_found, made_missing}
use Rattle.value_text.proofs.made.made_of.Goals as goal

pub returns-in-Some : goal.returns-in-Some
returns-in-Some c = made_found _ _ _ _ c.find_sort_name-found.ensures _ c.in-Some.is c.made_row.result c.made_row.ensures

pub returns-in-None : goal.returns-in-None
returns-in-None c = made_missing _ _ _ _ c.find_sort_name-found.ensures c.in-None.is Made.NoName
