mod Devices
