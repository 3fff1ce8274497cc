-- What the rows of the tables stand for.
use Rattle.wf_objects.specs.declared.rows.Device.TheInside as device
use Rattle.wf_objects.specs.declared.rows.Context.TheInside as context
use Rattle.wf_objects.specs.declared.rows.Link.TheInside as link
use Rattle.wf_model.specs.Objects.{Context, Device, Source}

abbrev pub device_of : device.Inside → Device
device_of x = record { handle = x.handle; register = x.register }

abbrev pub context_of : context.Inside → Context
context_of c =
    record {
      handle = c.handle;
      device = c.device;
      port = c.port;
      target = c.target;
      active = c.active;
      cached = c.cached;
      committed = c.committed;
    }

abbrev pub link_of : link.Inside → Source
link_of s = record { handle = s.handle; context = s.context; stream = s.stream }
