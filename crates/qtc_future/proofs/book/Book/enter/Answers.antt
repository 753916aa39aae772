use Rattle.std.proofs.Common.{◌≡◌, ◌+◌, [], ◌∷◌, ◌++◌, length, length-append, option_to_list, ap, sym, ◌∙◌, arith}
use Rattle.qtc_events.specs.Journal.{posts_of_entry}
use Rattle.qtc_future.specs.Booked.{Booked}
use Rattle.qtc_future.proofs.Rooms.{has_room_after}
use Rattle.qtc_future.proofs.book.Book.enter.Goals as goal

pub returns-clause-room : goal.returns-clause-room
returns-clause-room c =
    let posts = posts_of_entry c.args.filter c.args.entry c.args.old_count c.args.new_count in
    let entries : c.self.inside.journal.room ≡ c.args.self.now.entry_room = ap (λ (b : Booked). b.entry_room) c.self.view_is in
    let events : c.self.inside.events.room ≡ c.args.self.now.event_room = ap (λ (b : Booked). b.event_room) c.self.view_is in
    let own : length posts ≡ length (option_to_list c.posts-own.result.0) + length (option_to_list c.posts-own.result.1) = ap length (sym c.posts-own.ensures) ∙ length-append _ _ in
    let first = c.push.ensures.room in
    let second = c.push_some.ensures.room in
    let third = c.push_some-2.ensures.room in
    has_room_after c.args.self.now _ c.args.entry posts (c.push.ensures.items ∙ ap (λ (b : Booked). b.journal ++ c.args.entry ∷ []) c.self.view_is) c.requires.entry c.requires.posts (omega arith) (omega arith)
