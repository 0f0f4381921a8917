use Rattle.std.proofs.Common.{◌+◌, ◌*◌, ◌<◌, length, sym, refl, subst, arith}
use Rattle.std.proofs.lemmas.List.{get_or_read}
use Rattle.model.specs.State.{index, no_line, new_reader, new_replica}
use Rattle.reaction.proofs.Deliverables.{sender_small, replica_there, reader_there, line_there, mark_there, few_marks}
use Rattle.reaction.proofs.Deliverables.{for_writer, for_reader, for_replica}
use Rattle.reaction.proofs.receiving.react.Goals as goal

pub to_reader-requires : goal.to_reader-requires
to_reader-requires g c = sender_small c.requires refl

pub offset_bounds-readers-r : goal.offset_bounds-readers-r
offset_bounds-readers-r g c = let h = reader_there c.requires refl _ c.in-Reader.is in omega (arith, h)

pub bounds-readers-r : goal.bounds-readers-r
bounds-readers-r g c = reader_there c.requires refl _ c.in-Reader.is

pub offset_bounds-replicas-c : goal.offset_bounds-replicas-c
offset_bounds-replicas-c g c = let h = replica_there c.requires refl _ c.in-Replica.is in omega (arith, h)

pub bounds-replicas-c : goal.bounds-replicas-c
bounds-replicas-c g c = replica_there c.requires refl _ c.in-Replica.is

-- The line that was read is the operation's line, in the part of the journal that is in use.

pub to_replica-requires : goal.to_replica-requires
to_replica-requires g c =
    let its = c.line_of-line.ensures _ (no_line c.args.start) (line_there c.requires refl).1 in
    record {
      sender = sender_small c.requires refl;
      place = subst (λ o. c.in-Replica.c * c.args.numbers.now.readers + index o.owner < length c.args.marks.now)
          (sym its) (mark_there c.requires refl _ c.in-Replica.is);
      few = few_marks c.requires refl;
    }

pub returns-in-Writer : goal.returns-in-Writer
returns-in-Writer g c =
    let its = c.line_of-line.ensures _ (no_line c.args.start) (line_there c.requires refl).1 in
    for_writer _ _ c.args.message.now _ _ its c.in-Writer.is c.to_writer.ensures

pub returns-in-Reader : goal.returns-in-Reader
returns-in-Reader g c =
    let its = c.line_of-line.ensures _ (no_line c.args.start) (line_there c.requires refl).1 in
    for_reader _ _ c.args.message.now _ _ its _ c.in-Reader.is _
    (get_or_read _ _ _ (reader_there c.requires refl _ c.in-Reader.is) c.index-readers-r.is (new_reader c.args.start))
    c.to_reader.ensures

pub returns-in-Replica : goal.returns-in-Replica
returns-in-Replica g c =
    let its = c.line_of-line.ensures _ (no_line c.args.start) (line_there c.requires refl).1 in
    for_replica _ _ c.args.message.now _ _ its _ c.in-Replica.is _
    (get_or_read _ _ _ (replica_there c.requires refl _ c.in-Replica.is) c.index-replicas-c.is
    (new_replica c.args.start)) _ (sym c.requires.readers) c.to_replica.ensures
