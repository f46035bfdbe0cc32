use Rattle.listing_cases.proofs.ListInRoom.{list_in_room}
use Rattle.listing_cases.proofs.list.Goals as goal

pub slice_bounds-show-end : goal.slice_bounds-show-end
slice_bounds-show-end g c =
    let list = c.in-Ok in
    list_in_room 327680 0 c.args.file.now _ _ list.ensures.file_len_bound list.ensures.value.0 list.ensures.value.1
