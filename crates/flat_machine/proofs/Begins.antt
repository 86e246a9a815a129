-- Lists that begin: they stand in the code and in the map as the list around them says.
use Rattle.std.proofs.Common.{◌≡◌, ◌⊎◌, ℕ, ◌+◌, List, [], ◌∷◌, length, arith, refl, ◌∙◌, subst}
use Rattle.wasm_form.specs.declared.instr.Instr.{Instr}
use Rattle.wasm_form.specs.declared.parts.Parts.{Parts}
use Rattle.wasm_form.specs.Trees.{Code, end_instr, size}
use Rattle.code_map.specs.declared.target.Target.{Target}
use Rattle.code_map.specs.declared.body_map.BodyMap.{BodyMap}
use Rattle.code_map.specs.Targets.{HasTarget}
use Rattle.code_map.specs.Mapped.{Mapped}
use Rattle.tree_machine.specs.Config.{Label, Cont, cont, Frame}
use Rattle.flat_machine.specs.Flat.{Place}
use Rattle.flat_machine.specs.Text.{IsAt, StandsAt, EndsAt, LoopStands}
use Rattle.flat_machine.specs.Values.{operands_with}
use Rattle.flat_machine.specs.Mapping.{LabelLeads, left_by, LoopMapped, FrameMapped}
use Rattle.flat_machine.proofs.StraightAgrees.{cont_with}
use Rattle.flat_machine.proofs.Inner.{Inner, labels_count}

module _ (m : Parts) (maps : List BodyMap) (place : Place) (i : Instr) (f : Frame) (height : ℕ) (inner : Inner m maps place i (length f.locals) height f.conts) where
  abbrev outer_list : Code → List Cont
  outer_list rest = cont_with rest inner.k ∷ inner.around

  -- what is known of a list that begins at this place with its label, and of the list around it from behind it on
  pub record Begun (pc : ℕ) (inside rest : Code) (label : Label) (under : List ℕ) (t : Target) (middle : ℕ) : Type 0 where
    pub ends : EndsAt inner.body.expr (pc + size inside) middle
    pub stands : StandsAt inner.body.expr pc inside
    pub loops : LoopStands inner.body.expr middle label (outer_list rest)
    pub inside_mapped : Mapped m inner.map (t ∷ inner.target ∷ inner.labels) pc t.height inside
    pub leads : LabelLeads t middle label
    pub height_is : t.height ≡ length f.locals + length (operands_with under (outer_list rest))
    pub opens_is : t.opens ≡ length inner.labels
    pub closes : IsAt inner.body.expr (pc + size inside) end_instr ⊎ (HasTarget inner.map (pc + size inside) t × (t.to ≡ middle))
    pub loop_mapped : LoopMapped m inner.map t (inner.target ∷ inner.labels) label (outer_list rest)
    pub goes_on : StandsAt inner.body.expr middle rest
    pub place_is : place.pc + size inner.k.rest ≡ middle + size rest
    pub rest_mapped : Mapped m inner.map (inner.target ∷ inner.labels) middle (t.height + left_by label) rest

  pub begun_mapped : (pc opens : ℕ) (inside rest : Code) (label : Label) (under : List ℕ) (t : Target) (middle : ℕ) → Begun pc inside rest label under t middle →
      FrameMapped m maps 0 (record place { pc = pc; opens = opens }) (record f { operands = []; conts = cont inside label under ∷ outer_list rest })
  begun_mapped pc opens inside rest label under t middle b =
      let here = inner.list in
      let around = inner.mapped in
      let count : length inner.labels ≡ length inner.around =
      labels_count m inner.map inner.body.expr (length f.locals) inner.labels inner.after (inner.target.height + left_by inner.k.label) inner.afters inner.around inner.outer_mapped in
      record {
        left = record {
          body = inner.body;
          is = inner.body_is;
          afters = middle ∷ inner.after ∷ inner.afters;
          lists = (
            record { stop = pc + size inside; stops = refl; ends = b.ends; stands = b.stands; loops = b.loops },
            (record { stop = here.stop; stops = here.stops ∙ b.place_is; ends = here.ends; stands = b.goes_on; loops = here.loops }, inner.outer),
          );
        };
        map = inner.map;
        map_is = inner.map_is;
        labels = t ∷ inner.target ∷ inner.labels;
        height = t.height;
        height_is = let e = b.height_is in omega arith;
        lists = (
          record {
            mapped = b.inside_mapped;
            leads = b.leads;
            height_is = b.height_is;
            opens_is = b.opens_is ∙ count;
            closes = b.closes;
            loops = b.loop_mapped;
            outermost = λ w. absurd (cc);
          },
          (
            record {
              mapped = b.rest_mapped;
              leads = around.leads;
              height_is = around.height_is;
              opens_is = around.opens_is;
              closes = subst (λ (n : ℕ). IsAt inner.body.expr n end_instr ⊎ (HasTarget inner.map n inner.target × (inner.target.to ≡ inner.after))) b.place_is around.closes;
              loops = around.loops;
              outermost = around.outermost;
            },
            inner.outer_mapped,
          ),
        );
      }
