use Rattle.model.proofs.link_frame.carried_frame.Goals as goal

pub returns : goal.returns
returns g c =
    λ f h.
    rw (
      c.from_axes.ensures,
      c.carried-axis_z.ensures f h,
      c.carried-axis_y.ensures f h,
      c.carried-axis_x.ensures f h,
      c.identity-still.ensures,
    )
