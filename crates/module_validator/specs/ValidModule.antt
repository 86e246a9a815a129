-- What is seen of an accepted module.
use Rattle.wasm_form.specs.declared.parts.Parts.{Parts}
use Rattle.code_map.specs.declared.map.CodeMap.{CodeMap}

-- its parts, and the map of its code
pub record ValidModule : Type 0 where
  pub parts : Parts
  pub map : CodeMap
