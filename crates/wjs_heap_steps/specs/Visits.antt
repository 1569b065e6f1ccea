-- When what is visited is there.
use Rattle.wjs_props.specs.declared.visits.Visit.{Visit}
use Rattle.wjs_model.specs.declared.config.Config.{Config}
use Rattle.wjs_model.specs.Soundness.{HasSlot}

-- the object of a visit is there, and so is the name
abbrev pub HasVisit : {S : Type 0} → Config S → Visit → Type 0
HasVisit c v = HasSlot c (record { object = v.object; name = v.name })
