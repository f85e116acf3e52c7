use Rattle.gs_history.proofs.entry_json.write_changed.Goals as goal

pub returns-in-Dead : goal.returns-in-Dead
returns-in-Dead c = rw c.in-Dead.is c.write_left-in-Dead.ensures
