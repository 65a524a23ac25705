mod SlotsNow
mod StagedNow
