-- An event to name where none is meant.
use Rattle.ep_model.specs.declared.data.EventData.{EventData}
use Rattle.ep_model.specs.declared.data.EventData.TheVariants.{Opened}

abbrev pub any_event : EventData
any_event = Opened
