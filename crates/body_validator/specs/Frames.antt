-- The labels of the lists that have begun.
use Rattle.std.specs.Prelude.{List, map, Option, option_to_list}
use Rattle.wasm_form.specs.declared.value_type.ValType.{ValType}
use Rattle.body_validator.specs.declared.frame.Frame.{Frame}

-- what a branch to its label carries
abbrev pub carried_by : Frame → Option ValType
carried_by frame = frame.carries

-- what a branch to each label carries, the innermost first
abbrev pub labels_of : List Frame → List (List ValType)
labels_of frames = map (λ (c : Option ValType). option_to_list c) (map carried_by frames)
